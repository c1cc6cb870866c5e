-- Items of lists of lines: `N`, `N-M`, `S:all`, `-N` and `-N-M`.
use Rattle.std.specs.Prelude.{ℕ, ◌==◌, Bool, true, false, ◌&&◌, nat_le, nat_eq, List, [], ◌∷◌}
use Rattle.std.specs.Prelude.{codes}
use Rattle.std.specs.Prelude.{if◌then◌else◌, Option, Some, None, option_map, option_and_then}
use Rattle.std.specs.Cmp.Lexicographic.{pointwise}
use Rattle.casebook_text.specs.Splitting.{cut_at}
use Rattle.retro_text.specs.Numbers.{number_in}
use Rattle.casebook_text.specs.declared.item.Item.{Item}
use Rattle.casebook_text.specs.declared.item.Lines.{Lines}
use Rattle.casebook_text.specs.declared.item.Lines.TheVariants.{One, Range, Session}

abbrev pub dash : ℕ
dash = 45

abbrev pub colon : ℕ
colon = 58

-- ---- what an item says

abbrev pub range_of : Option ℕ → Option ℕ → Option Lines
range_of first last = option_and_then (λ n. option_map (λ m. Range n m) last) first

-- `N-M`, if there is a dash, and otherwise `N`
abbrev pub numbers_of : List ℕ → Option (List ℕ × List ℕ) → Option Lines
numbers_of text None = option_map (λ n. One n) (number_in text)
numbers_of text (Some parts) = range_of (number_in parts.0) (number_in parts.1)

unfoldable pub numbers_in : List ℕ → Option Lines
numbers_in text = numbers_of text (cut_at dash text)

-- `S:all`, if there is a colon
abbrev pub lines_of : List ℕ → Option (List ℕ × List ℕ) → Option Lines
lines_of text None = numbers_in text
lines_of text (Some parts) =
    if pointwise nat_eq parts.1 (codes "all")
    then option_map (λ s. Session s) (number_in parts.0) else None

unfoldable pub lines_in : List ℕ → Option Lines
lines_in text = lines_of text (cut_at colon text)

abbrev pub added : Lines → Item
added lines = record { adds = true; lines = lines }

abbrev pub taken_away : Lines → Item
taken_away lines = record { adds = false; lines = lines }

-- what comes after a dash at the front of a text
unfoldable pub after_dash : List ℕ → Option (List ℕ)
after_dash [] = None
after_dash (b ∷ rest) = if b == dash then Some rest else None

-- an item takes lines away if it begins with a dash, and adds lines otherwise
abbrev pub item_of : List ℕ → Option (List ℕ) → Option Item
item_of text None = option_map added (lines_in text)
item_of text (Some rest) = option_map taken_away (numbers_in rest)

unfoldable pub item_in : List ℕ → Option Item
item_in text = item_of text (after_dash text)

-- ---- which lines it names

-- a line: its number, and its session's
abbrev pub Line : Type 0
Line = ℕ × ℕ

abbrev pub is_in : Lines → Line → Bool
is_in (One n) line = line.0 == n
is_in (Range first last) line = nat_le first line.0 && nat_le line.0 last
is_in (Session s) line = line.1 == s
