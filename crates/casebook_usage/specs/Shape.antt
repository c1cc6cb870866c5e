-- The words of a command as far as they are known before the line runs, and the fields that they
-- may become.
use Rattle.std.specs.Prelude.{◌≡◌, ℕ, ◌==◌, Bool, true, false, not, List, [], ◌∷◌, ◌++◌, codes, string_bytes}
use Rattle.std.specs.List.{list_any}
use Rattle.retro_text.specs.Ascii.{dash}
use Rattle.retro_text.specs.Request.{has_letter}
use Rattle.casebook_usage.specs.declared.shape.Shape.{Shape}
use Rattle.casebook_usage.specs.declared.shape.Shape.TheVariants as shapes

-- what is known of a word: its field, that it becomes one operand, that it becomes fields with a
-- character that no option of `echo` has, or nothing
pub data ShapeValue : Type 0 where
  literal : List ℕ → ShapeValue
  operand : ShapeValue
  phrase : ShapeValue
  loose : ShapeValue

abbrev pub shape_view : Shape → ShapeValue
shape_view (shapes.Literal text) = literal (string_bytes text)
shape_view shapes.Operand = operand
shape_view shapes.Phrase = phrase
shape_view shapes.Loose = loose

-- whether a field isn't empty and doesn't begin with a dash
abbrev pub is_plain : List ℕ → Bool
is_plain [] = false
is_plain (b ∷ text) = not (b == dash)

-- whether a character is in options of bash's `echo`
abbrev pub is_in_echo_options : ℕ → Bool
is_in_echo_options b = has_letter (codes "-neE") b

-- whether a word may become these fields
abbrev pub Becomes : ShapeValue → List (List ℕ) → Type 0
Becomes (literal text) fields = fields ≡ text ∷ []
Becomes operand fields = (text : List ℕ) × ((fields ≡ text ∷ []) × (is_plain text ≡ true))
Becomes phrase fields = list_any (list_any (λ b. not (is_in_echo_options b))) fields ≡ true
Becomes loose fields = Unit {0}

-- whether words may become these fields: each word some of them, in order
abbrev pub AllBecome : List ShapeValue → List (List ℕ) → Type 0
AllBecome [] fields = fields ≡ []
AllBecome (word ∷ words) fields =
    (first : List (List ℕ)) × ((rest : List (List ℕ)) × ((fields ≡ first ++ rest) × (Becomes word first × AllBecome words rest)))
