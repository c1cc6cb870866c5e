-- The texts of `echo` and of a usage fault (XCU echo).
use Rattle.std.specs.Prelude.{ℕ, List, [], ◌∷◌, ◌++◌, codes, if◌then◌else◌}
use Rattle.std.specs.List.{join_with_byte}
use Rattle.retro_path.specs.Ascii.{newline}
use Rattle.retro_path.specs.Order.{text_eq}
use Rattle.retro_text.specs.Ascii.{space}

-- the operands, each after a space
abbrev pub spaced : List (List ℕ) → List ℕ
spaced [] = []
spaced (operand ∷ operands) = space ∷ (operand ++ spaced operands)

-- the operands, a space between each two, and a newline; a first operand `-n` omits the newline
abbrev pub echo_text : List (List ℕ) → List ℕ
echo_text [] = newline ∷ []
echo_text (first ∷ rest) =
    if text_eq first (codes "-n") then join_with_byte space rest
    else join_with_byte space (first ∷ rest) ++ newline ∷ []

-- what a utility prints if its fields aren't a form of its synopsis
abbrev pub usage_text : List ℕ → List ℕ
usage_text name = name ++ codes ": usage" ++ newline ∷ []
