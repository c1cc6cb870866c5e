-- Parts of rows.
use Rattle.std.specs.Prelude.{ℕ, ◌==◌, ◌||◌, Bool, nat_lt, List, [], ◌∷◌, length, take, drop}
use Rattle.std.specs.Prelude.{Option, Some, None, option_and_then, position, unwrap_or}
use Rattle.std.specs.Prelude.{if◌then◌else◌}
use Rattle.retro_path.specs.Order.{text_eq}
use Rattle.casebook_needs.specs.Words.{tab}

-- ' '
abbrev pub space : ℕ
space = 32

-- a space or a tab
abbrev pub is_blank : ℕ → Bool
is_blank b = b == space || b == tab

-- what follows a front, if the text begins with it
unfoldable pub after : List ℕ → List ℕ → Option (List ℕ)
after front text =
    if text_eq (take (length front) text) front then Some (drop (length front) text) else None

-- what follows a front, or the text if it doesn't begin with it
abbrev pub after_any : List ℕ → List ℕ → List ℕ
after_any front text = unwrap_or (after front text) text

-- what follows the blanks at the front
unfoldable pub after_blanks : List ℕ → List ℕ
after_blanks [] = []
after_blanks (b ∷ rest) = if is_blank b then after_blanks rest else b ∷ rest

-- the texts before a byte and from there on
abbrev pub Cut : Type 0
Cut = List ℕ × List ℕ

-- the texts before and from the byte at a place, unless it is the first byte
abbrev pub cut_before : List ℕ → ℕ → Option Cut
cut_before text n = if nat_lt 0 n then Some (take n text, drop n text) else None

-- The texts before and from the first byte that passes a test. None if there is no such byte, or if
-- it is the first byte.
unfoldable pub cut_at : (ℕ → Bool) → List ℕ → Option Cut
cut_at test text = option_and_then (cut_before text) (position test text)
