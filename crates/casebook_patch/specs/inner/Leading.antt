-- Texts of which one becomes the other by parts.
use Rattle.std.specs.Prelude.{◌≡◌, ℕ, ◌+◌, List, [], ◌∷◌, ◌++◌, length}
use Rattle.std.specs.Prelude.{slice_range}
use Rattle.casebook_text.specs.Hunks.{Marked}
use Rattle.casebook_text.specs.declared.hunk.Hunk.{Hunk}
use Rattle.casebook_text.specs.declared.hunk.Span.{Span}
use Rattle.casebook_patch.specs.Parts.{Line, PartValue, new_lines, old_lines}

-- Two texts: lines that both have, lines of which a part makes others, and the rest of both. So
-- many lines are before them.
pub record IsStep (i j : ℕ) (part : PartValue) (old new kept old_rest new_rest : List Line) :
    Type 0 where
  pub old_is : old ≡ kept ++ (old_lines part ++ old_rest)
  pub new_is : new ≡ kept ++ (new_lines part ++ new_rest)
  pub old_at : part.old.before ≡ i + length kept
  pub new_at : part.new.before ≡ j + length kept

-- parts make the new text of the old one, and differ nowhere else
abbrev pub Leads : ℕ → ℕ → List PartValue → List Line → List Line → Type 0
Leads i j [] old new = old ≡ new
Leads i j (part ∷ parts) old new =
    (kept : List Line) × (old_rest : List Line) × (new_rest : List Line)
    × IsStep i j part old new kept old_rest new_rest
    × Leads (part.old.before + length (old_lines part)) (part.new.before + length (new_lines part)) parts
    old_rest new_rest

abbrev pub part_value : Span → Span → List Marked → PartValue
part_value old new lines = record { old = old; new = new; lines = lines }

-- a part of a diff with its lines
abbrev pub part_of : List Marked → Hunk → PartValue
part_of lines h = part_value h.old h.new (slice_range lines h.from h.to)
