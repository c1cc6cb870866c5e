-- Lists of lines in files.
use Rattle.std.specs.Prelude.{ℕ, ◌==◌, List, [], length, map, flat_map, if◌then◌else◌}
use Rattle.std.specs.List.{before_first, join_with_byte, slice_split}
use Rattle.std.specs.Str.{trim}
use Rattle.casebook_text.specs.Lists.{comma}

abbrev pub newline : ℕ
newline = 10

-- '#'
abbrev pub hash : ℕ
hash = 35

-- what a line has before its comment, without the white space around it
abbrev pub content_of_line : List ℕ → List ℕ
content_of_line line = trim (before_first (λ b. b == hash) line)

-- the texts between commas, each without the white space around it; an empty content has none
abbrev pub items_in : List ℕ → List (List ℕ)
items_in content =
    if length content == 0 then [] else map trim (slice_split (λ b. b == comma) content)

-- the items of a line
unfoldable pub items_of_line : List ℕ → List (List ℕ)
items_of_line line = items_in (content_of_line line)

-- the items of all lines, with commas between them
unfoldable pub list_of_file : List ℕ → List ℕ
list_of_file text =
    join_with_byte comma (flat_map items_of_line (slice_split (λ b. b == newline) text))
