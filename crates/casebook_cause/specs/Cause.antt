-- Causes: the lines at which two recordings change the cells of a query differently.
use Rattle.std.specs.Prelude.{◌≡◌, ◌==◌, ◌<◌, ℕ, List, [], ◌∷◌, Option, Some, None, if◌then◌else◌}
use Rattle.std.specs.List.{filter}
use Rattle.retro_tree.specs.Ask.{supports}
use Rattle.retro_tree.specs.Change.{cell_of}
use Rattle.retro_tree.specs.declared.ask.Ask.{Ask}
use Rattle.retro_tree.specs.declared.change.Change.{Change}
use Rattle.retro_tree.specs.declared.note.Note.{Note}
use Rattle.retro_keep.specs.Recording.{RecordingValue, noted_at}
use Rattle.retro_keep.specs.declared.noted.Noted.{Noted}
use Rattle.retro_redo.specs.Repair.{verdicts_in}
use Rattle.retro_redo.specs.declared.repair.Repair.{Repair}
use Rattle.retro_redo.specs.declared.verdict.Verdict.{Verdict}
use Rattle.casebook_cause.specs.LineResult.{changes_in}

-- two recordings to be compared: as it was recorded, and as it is repaired
pub record TwoRecordings : Type 0 where
  pub recorded : RecordingValue
  pub repaired : RecordingValue

-- the changes of notes to the cells on which the answer to a query can depend, in order
abbrev pub changes_for : Ask → List Note → List Change
changes_for q notes = filter (λ c. supports q (cell_of c)) (changes_in notes)

abbrev pub notes_of : Option Noted → List Note
notes_of None = []
notes_of (Some noted) = noted.notes

-- the changes of the line with a number to these cells; none if no line has the number
abbrev pub changes_at : Ask → ℕ → RecordingValue → List Change
changes_at q n r = changes_for q (notes_of (noted_at n r.lines))

-- the line with a number changes the cells of a query alike in two recordings
abbrev pub IsAlike : Ask → RecordingValue → RecordingValue → ℕ → Type 0
IsAlike q one two n = changes_at q n one ≡ changes_at q n two

-- The cause of what a query answers before a line: the last line before it that changes the cells
-- of the query differently in one recording than in another.
pub record IsCause (q : Ask) (n : ℕ) (one two : RecordingValue) (m : ℕ) : Type 0 where
  pub earlier : m < n
  pub otherwise : ¬ (IsAlike q one two m)
  pub last : (k : ℕ) → m < k → k < n → IsAlike q one two k

-- the first of some verdicts that is on the line with a number, or None if there is none
abbrev pub verdict_at : ℕ → List (ℕ × Verdict) → Option Verdict
verdict_at n [] = None
verdict_at n (v ∷ verdicts) = if v.0 == n then Some v.1 else verdict_at n verdicts

-- the verdict of a repair on the line with a number
abbrev pub verdict_on : ℕ → Repair → Option Verdict
verdict_on n repair = verdict_at n (verdicts_in repair)
