-- Unified diffs of texts: the parts that differ, each with a head that says which lines it has.
use Rattle.std.specs.Prelude.{◌≡◌, ℕ, ◌+◌, ◌==◌, IsTrue, List, [], ◌∷◌, ◌++◌, codes, decimal, flat_map}
use Rattle.std.specs.Prelude.{if◌then◌else◌, map, slice_range}
use Rattle.std.specs.List.{list_all}
use Rattle.casebook_text.specs.Diff.{in_new, in_old, is_same, marked}
use Rattle.casebook_text.specs.Hunks.{AreHunks, Marked}
use Rattle.casebook_text.specs.declared.hunk.Hunk.{Hunk}
use Rattle.casebook_text.specs.declared.hunk.Span.{Span}
use Rattle.casebook_text.specs.declared.line_diff.Mark.{Mark}
use Rattle.casebook_text.specs.declared.line_diff.Mark.TheVariants.{Same, Removed, Added}

-- how many lines are shown before and after lines that differ
abbrev pub context : ℕ
context = 3

-- a line after a sign: it is in both texts, in the old one or in the new one
unfoldable pub sign_words : Mark → List ℕ
sign_words Same = codes " "
sign_words Removed = codes "-"
sign_words Added = codes "+"

abbrev pub signed_line : Marked → List ℕ
signed_line line = sign_words line.0 ++ line.1.now

-- the number of the first line of a text that a part has, or of the line before if it has none
abbrev pub first_number : Span → ℕ
first_number span = if span.count == 0 then span.before else span.before + 1

-- this number, and how many lines the part has if it isn't one
unfoldable pub span_words : Span → List ℕ
span_words span =
    decimal (first_number span) ++ (if span.count == 1 then [] else codes "," ++ decimal span.count)

unfoldable pub part_head : Hunk → List ℕ
part_head part = codes "@@ -" ++ span_words part.old ++ codes " +" ++ span_words part.new ++ codes " @@"

-- a part: its head, and its lines
abbrev pub part_lines : List (List ℕ) → Hunk → List (List ℕ)
part_lines signed part = part_head part ∷ slice_range signed part.from part.to

-- The lines of a unified diff. The merged lines are those of both texts, and the parts are exactly
-- those that differ, with up to three lines around them.
pub record IsUnified (old new lines : List (List ℕ)) : Type 0 where
  pub merged : List Marked
  pub parts : List Hunk
  pub old_lines : marked in_old merged ≡ old
  pub new_lines : marked in_new merged ≡ new
  pub alike : old ≡ new → IsTrue (list_all (λ line. is_same line.0) merged)
  pub are_parts : AreHunks merged context parts
  pub shown : lines ≡ flat_map (part_lines (map signed_line merged)) parts
