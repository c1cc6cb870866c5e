-- Texts that are safe to show.
use Rattle.std.specs.Prelude.{ℕ, Bool, ◌&&◌, List, chars}
use Rattle.std.specs.List.{list_all}
use Rattle.casebook_text.specs.SafeText.{is_safe, is_safe_byte}
use Rattle.casebook_text.specs.declared.safe_text.Breaks.TheVariants.{Keep}

-- A text that is safe to show. No byte is a control code of ASCII but a newline or a tab, and each
-- other character is harmless.
abbrev pub is_safe_text : List ℕ → Bool
is_safe_text text = list_all (is_safe_byte Keep) text && list_all (is_safe Keep) (chars text)
