-- The parts of a patch of a text, and what they make of its lines.
use Rattle.std.specs.Prelude.{◌≡◌, ℕ, ◌+◌, ◌-◌, ◌<◌, ◌^◌, ◌&&◌, List, [], ◌∷◌, ◌++◌, Option, Some}
use Rattle.std.specs.Prelude.{None}
use Rattle.std.specs.Prelude.{drop, if◌then◌else◌, length, map, nat_le, option_and_then}
use Rattle.std.specs.Prelude.{option_map, take}
use Rattle.retro_path.specs.Order.{text_eq}
use Rattle.casebook_text.specs.Diff.{in_new, in_old, marked}
use Rattle.casebook_text.specs.Hunks.{Marked}
use Rattle.casebook_text.specs.declared.hunk.Span.{Span}
use Rattle.casebook_text.specs.declared.line_diff.Mark.{Mark}
use Rattle.casebook_text.specs.declared.line_diff.Mark.TheVariants.{Same, Removed, Added}

-- A part: which lines of both texts it has, and these lines, merged.
pub record PartValue : Type 0 where
  pub old : Span
  pub new : Span
  pub lines : List Marked

-- a line, with its newline if it has one
abbrev pub Line : Type 0
Line = List ℕ

-- the lines of a part in the old text, and in the new one
abbrev pub old_lines : PartValue → List Line
old_lines part = marked in_old part.lines

abbrev pub new_lines : PartValue → List Line
new_lines part = marked in_new part.lines

-- what is left of a text after these first lines, or None if it has others
abbrev pub rest_after : List Line → List Line → Option (List Line)
rest_after [] text = Some text
rest_after (x ∷ xs) [] = None
rest_after (x ∷ xs) (y ∷ text) = if text_eq x y then rest_after xs text else None

-- a text in which a part has taken the place of its old lines, at the front. `next` makes what
-- follows of the lines that follow
abbrev pub replaced : PartValue → (List Line → Option (List Line)) → List Line → Option (List Line)
replaced part next text =
    option_and_then (λ rest. option_map (λ more. new_lines part ++ more) (next rest))
    (rest_after (old_lines part) text)

-- What parts make of the lines of a text from one on, of which so many are before it. None if the
-- text doesn't have the old lines of a part where the part says.
abbrev pub patched : ℕ → List PartValue → List Line → Option (List Line)
patched before [] text = Some text
patched before (part ∷ parts) text =
    let kept = part.old.before - before in
    if nat_le before part.old.before && nat_le kept (length text)
    then option_map (λ more. take kept text ++ more)
    (replaced part (patched (part.old.before + length (old_lines part)) parts) (drop kept text))
    else None

-- a part that does the opposite
abbrev pub turned_mark : Mark → Mark
turned_mark Same = Same
turned_mark Removed = Added
turned_mark Added = Removed

abbrev pub turned : PartValue → PartValue
turned part = record {
  old = part.new;
  new = part.old;
  lines = map (λ line. (turned_mark line.0, line.1)) part.lines;
}

-- A part says how many lines of both texts it has. The numbers of its first lines fit 64 bits.
pub record IsCounted (part : PartValue) : Type 0 where
  pub old_count : part.old.count ≡ length (old_lines part)
  pub new_count : part.new.count ≡ length (new_lines part)
  pub old_fits : part.old.before + 1 < 2 ^ 64
  pub new_fits : part.new.before + 1 < 2 ^ 64
