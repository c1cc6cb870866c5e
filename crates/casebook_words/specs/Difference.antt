-- How two answers to a query differ, in words: of two texts the first line that differs, or which
-- of them a newline ends, of two listings the first name that one lacks, and else both answers. What
-- stands for something else is no text.
use Rattle.std.specs.Prelude.{◌≡◌, ◌≢◌, ℕ, ◌==◌, ◌+◌, ◌-◌, ◌≤◌, Bool, true, false, not, ◌||◌, List, ◌++◌}
use Rattle.std.specs.Prelude.{Option, Some, None, is_some, length, option_and_then, codes, decimal, take}
use Rattle.std.specs.Prelude.{if◌then◌else◌}
use Rattle.std.specs.List.{common_prefix_len, find, list_any, slice_get}
use Rattle.casebook_opaque.specs.Opaque.{is_opaque}
use Rattle.casebook_text.specs.SafeLine.{word_bytes}
use Rattle.retro_tree.specs.Order.{text_eq}
use Rattle.retro_tree.specs.declared.answer.Answer.{Answer}
use Rattle.retro_tree.specs.declared.answer.Answer.TheVariants as answers
use Rattle.retro_tree.specs.declared.node.Node.TheVariants as nodes
use Rattle.casebook_words.specs.Cut.{cut_words}
use Rattle.casebook_words.specs.Lines.{newline, texts_in}
use Rattle.casebook_words.specs.Words.{answer_words, value_limit}

-- ---- texts

-- how many lines at the fronts of two texts are the same
abbrev pub same_lines : List (List ℕ) → List (List ℕ) → ℕ
same_lines old new = common_prefix_len text_eq old new

-- a place where two texts differ: its number, from 1 on, and the line of each text, if it has one
pub record Difference : Type 0 where
  pub number : ℕ
  pub old : Option (List ℕ)
  pub new : Option (List ℕ)

-- what texts have after their first n lines
abbrev pub difference_after : ℕ → List (List ℕ) → List (List ℕ) → Difference
difference_after n old new = record { number = n + 1; old = slice_get old n; new = slice_get new n }

-- a place where one text at least has a line
abbrev pub if_any : Difference → Option Difference
if_any d = if is_some d.old || is_some d.new then Some d else None

-- the first place where two texts differ
unfoldable pub first_difference : List (List ℕ) → List (List ℕ) → Option Difference
first_difference old new = if_any (difference_after (same_lines old new) old new)

-- The first place where two texts differ: all lines before it are the same, and those at it aren't.
pub record IsFirst (old new : List (List ℕ)) (d : Difference) : Type 0 where
  pub counted : 1 ≤ d.number
  pub same_before : take (d.number - 1) old ≡ take (d.number - 1) new
  pub old_line : d.old ≡ slice_get old (d.number - 1)
  pub new_line : d.new ≡ slice_get new (d.number - 1)
  pub differ : d.old ≢ d.new

-- a line of a text, or that the text ends before it
unfoldable pub line_words : Option (List ℕ) → List ℕ
line_words None = codes "ends before it"
line_words (Some line) = cut_words value_limit line

unfoldable pub line_difference_words : Difference → List ℕ
line_difference_words d =
    codes " line " ++ decimal d.number ++ codes ": " ++ line_words d.old ++ codes " / "
    ++ line_words d.new

-- ---- listings

-- the first name that other names lack
abbrev pub first_lacking : List (List ℕ) → List (List ℕ) → Option (List ℕ)
first_lacking names others = find (λ name. not (list_any (λ other. text_eq other name) others)) names

-- a name that is in one of two listings alone, and whether it is in the old one
pub record NameDifference : Type 0 where
  pub name : List ℕ
  pub is_old : Bool

abbrev pub either : Option (List ℕ) → Option (List ℕ) → Option NameDifference
either (Some name) new = Some (record { name = name; is_old = true })
either None (Some name) = Some (record { name = name; is_old = false })
either None None = None

-- the first name that is in the old listing alone, or else the first that is in the new one alone
unfoldable pub first_name : List (List ℕ) → List (List ℕ) → Option NameDifference
first_name old new = either (first_lacking old new) (first_lacking new old)

-- which listing has a name
unfoldable pub side_words : Bool → List ℕ
side_words true = codes ": there / missing"
side_words false = codes ": missing / there"

unfoldable pub name_difference_words : NameDifference → List ℕ
name_difference_words d = codes ", name " ++ word_bytes d.name ++ side_words d.is_old

-- ---- last newlines

abbrev pub is_newline : Option ℕ → Bool
is_newline None = false
is_newline (Some byte) = byte == newline

-- whether a newline ends a text
abbrev pub has_last_newline : List ℕ → Bool
has_last_newline text = is_newline (slice_get text (length text - 1))

-- of texts with the same lines: whether it is the old one that has a last newline, which the other
-- lacks, or None if they are the same
unfoldable pub newline_between : List ℕ → List ℕ → Option Bool
newline_between old new = if text_eq old new then None else Some (has_last_newline old)

unfoldable pub newline_words : Bool → List ℕ
newline_words is_old = codes " last newline" ++ side_words is_old

-- ---- answers

-- the bytes of a file, unless they stand for something else
abbrev pub kept : List ℕ → Option (List ℕ)
kept bytes = if is_opaque bytes then None else Some bytes

-- the bytes of a file, if that is the answer and they don't stand for something else
abbrev pub file_in : Answer → Option (List ℕ)
file_in (answers.Bytes (nodes.File bytes)) = kept bytes
file_in _ = None

-- the names of a directory, if that is the answer
abbrev pub listing_in : Answer → Option (List (List ℕ))
listing_in (answers.Names names) = names
listing_in _ = None

unfoldable pub line_difference : Answer → Answer → Option Difference
line_difference old new =
    option_and_then (λ one. option_and_then (λ two. first_difference (texts_in one) (texts_in two)) (file_in new))
    (file_in old)

unfoldable pub name_difference : Answer → Answer → Option NameDifference
name_difference old new =
    option_and_then (λ one. option_and_then (first_name one) (listing_in new)) (listing_in old)

unfoldable pub newline_difference : Answer → Answer → Option Bool
newline_difference old new =
    option_and_then (λ one. option_and_then (newline_between one) (file_in new)) (file_in old)

unfoldable pub both_words : Answer → Answer → List ℕ
both_words old new = codes ": " ++ answer_words old ++ codes " / " ++ answer_words new

abbrev pub other_words_of : Option Bool → Option NameDifference → List ℕ → List ℕ
other_words_of (Some is_old) name both = newline_words is_old
other_words_of None (Some name) both = name_difference_words name
other_words_of None None both = both

-- how answers differ of which no line differs
unfoldable pub other_words : Answer → Answer → List ℕ
other_words old new =
    other_words_of (newline_difference old new) (name_difference old new) (both_words old new)

abbrev pub words_of : Option Difference → List ℕ → List ℕ
words_of (Some line) other = line_difference_words line
words_of None other = other

unfoldable pub difference_words : Answer → Answer → List ℕ
difference_words old new = words_of (line_difference old new) (other_words old new)
