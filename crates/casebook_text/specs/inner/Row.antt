-- Rows of texts: lines that may have tabs.
use Rattle.std.specs.Prelude.{ℕ, ◌==◌, not, List, [], ◌∷◌, IsTrue, chars}
use Rattle.std.specs.List.{list_all}
use Rattle.std.specs.Str.{IsUtf8}
use Rattle.casebook_text.specs.SafeText.{is_safe, is_safe_byte}
use Rattle.casebook_text.specs.SafeLine.{IsSafeLine, line_end}
use Rattle.casebook_text.specs.declared.safe_text.Breaks.TheVariants.{Keep}

-- a text without newlines whose characters are harmless or tabs
pub record IsRow (row : List ℕ) : Type 0 where
  pub utf8 : IsUtf8 row
  pub characters : IsTrue (list_all (is_safe Keep) (chars row))
  pub bytes : IsTrue (list_all (is_safe_byte Keep) row)
  pub no_end : IsTrue (list_all (λ b. not (b == line_end)) row)

-- all lines are safe
abbrev pub AllSafe : List (List ℕ) → Type 0
AllSafe [] = Unit {0}
AllSafe (line ∷ lines) = IsSafeLine line × AllSafe lines
