-- Text in HTML: the escapes of the characters that have a meaning in markup or that end an
-- attribute's value (HTML Standard, section 13.1.4, character references).
use Rattle.std.specs.Prelude.{ℕ, zero, suc, ◌-◌, ◌==◌, Bool, ◌||◌, nat_eq, if◌then◌else◌, List, []}
use Rattle.std.specs.Prelude.{◌∷◌, length, flat_map}
use Rattle.std.specs.Prelude.{codes, Option, Some, None}
use Rattle.std.specs.List.{starts_with}

abbrev pub ampersand : ℕ
ampersand = 38

abbrev pub less_than : ℕ
less_than = 60

abbrev pub greater_than : ℕ
greater_than = 62

abbrev pub double_quote : ℕ
double_quote = 34

abbrev pub single_quote : ℕ
single_quote = 39

-- a byte, and the character reference that stands for it
pub record Escape : Type 0 where
  pub byte : ℕ
  pub text : List ℕ

abbrev pub escape_of : ℕ → List ℕ → Escape
escape_of byte text = record { byte = byte; text = text }

abbrev pub escapes : List Escape
escapes =
    escape_of ampersand (codes "&amp;")
    ∷ escape_of less_than (codes "&lt;")
    ∷ escape_of greater_than (codes "&gt;")
    ∷ escape_of double_quote (codes "&quot;")
    ∷ escape_of single_quote (codes "&#39;") ∷ []

-- ---- escaping

-- what is written for a byte: its escape, or the byte itself
abbrev pub written_by : List Escape → ℕ → List ℕ
written_by [] b = b ∷ []
written_by (e ∷ es) b = if b == e.byte then e.text else written_by es b

unfoldable pub written : ℕ → List ℕ
written = written_by escapes

abbrev pub escaped : List ℕ → List ℕ
escaped = flat_map written

-- ---- what an escaped text means

-- the escape that bytes begin with
abbrev pub escape_at : List Escape → List ℕ → Option Escape
escape_at [] bs = None
escape_at (e ∷ es) bs = if starts_with nat_eq bs e.text then Some e else escape_at es bs

-- the byte that the first bytes stand for, and how many more of them do
abbrev pub first_byte : ℕ → Option Escape → ℕ
first_byte b None = b
first_byte b (Some e) = e.byte

abbrev pub more_bytes : Option Escape → ℕ
more_bytes None = 0
more_bytes (Some e) = length e.text - 1

-- after the first n bytes, the bytes with each escape replaced by what it stands for
unfoldable pub unescaped_after : ℕ → List ℕ → List ℕ
unescaped_after n [] = []
unescaped_after (suc n) (b ∷ bs) = unescaped_after n bs
unescaped_after zero (b ∷ bs) =
    let found = escape_at escapes (b ∷ bs) in
    first_byte b found ∷ unescaped_after (more_bytes found) bs

abbrev pub unescaped : List ℕ → List ℕ
unescaped = unescaped_after 0

-- ---- what can't be in an escaped text

-- a byte that begins or ends a tag or an attribute's value
abbrev pub is_markup : ℕ → Bool
is_markup b = (b == less_than || b == greater_than) || (b == double_quote || b == single_quote)
