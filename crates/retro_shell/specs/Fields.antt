-- Fields while words are expanded (XCU 2.6.5).
use Rattle.std.specs.Prelude.{ℕ, ◌+◌, Bool, ◌==◌, ◌||◌, nat_le, if◌then◌else◌, List, [], ◌∷◌, ◌++◌, length}
use Rattle.std.specs.Prelude.{Option, Some, None, unwrap_or}
use Rattle.retro_syntax.specs.Ascii as ascii

-- the fields that have ended, and the one that is still open, if there is one
pub record Fields : Type 0 where
  pub ended : List (List ℕ)
  pub current : Option (List ℕ)

abbrev pub no_fields : Fields
no_fields = record { ended = []; current = None }

-- An open field: the one that was open, or an empty one.
abbrev pub begin : Fields → Fields
begin f = record f { current = Some (unwrap_or f.current []) }

-- Bytes at the end of the open field. An empty text opens no field.
abbrev pub add : List ℕ → Fields → Fields
add [] f = f
add (b ∷ bs) f = record f { current = Some (unwrap_or f.current [] ++ b ∷ bs) }

abbrev pub ended_with : Option (List ℕ) → List (List ℕ) → List (List ℕ)
ended_with None fields = fields
ended_with (Some field) fields = fields ++ field ∷ []

-- The open field ends, if there is one.
abbrev pub close : Fields → Fields
close f = record { ended = ended_with f.current f.ended; current = None }

-- a space, a tab or a newline
abbrev pub is_blank : ℕ → Bool
is_blank b = b == ascii.space || (b == ascii.tab || b == ascii.newline)

-- Bytes of which each run of blanks ends the open field.
abbrev pub add_split : List ℕ → Fields → Fields
add_split [] f = f
add_split (b ∷ bs) f = add_split bs (if is_blank b then close f else add (b ∷ []) f)

-- the bytes before the first blank
abbrev pub before_blank : List ℕ → List ℕ
before_blank [] = []
before_blank (b ∷ bs) = if is_blank b then [] else b ∷ before_blank bs

abbrev pub after_byte : ℕ → List ℕ × Option (List ℕ) → List ℕ × Option (List ℕ)
after_byte b (before, rest) = (b ∷ before, rest)

-- the bytes before the first blank, and the bytes after it if there is a blank
abbrev pub split_at_blank : List ℕ → List ℕ × Option (List ℕ)
split_at_blank [] = ([], None)
split_at_blank (b ∷ bs) = if is_blank b then ([], Some bs) else after_byte b (split_at_blank bs)

-- the maximum size of a command's fields together, in bytes (own)
abbrev pub fields_limit : ℕ
fields_limit = 131072

-- the size of fields together
abbrev pub size_of : List (List ℕ) → ℕ
size_of [] = 0
size_of (field ∷ fields) = length field + size_of fields

-- whether fields keep the limit
abbrev pub fields_fit : List (List ℕ) → Bool
fields_fit fields = nat_le (size_of fields) fields_limit
