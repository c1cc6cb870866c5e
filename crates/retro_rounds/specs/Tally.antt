-- What the tally of a repair in rounds counts.
use Rattle.std.specs.Prelude.{◌≡◌, ◌⊎◌, ℕ, ◌+◌, List, [], ◌∷◌, Option}
use Rattle.retro_keep.specs.Recording.{IsRecordingOf, RecordingValue, script_in}
use Rattle.retro_keep.specs.declared.edit.Edit.{Edit}
use Rattle.retro_redo.specs.Repair.{moments_of}
use Rattle.retro_redo.specs.declared.tally.Tally.{Tally}
use Rattle.retro_rounds.specs.Jobs.{IsJob, IsUnused}
use Rattle.retro_rounds.specs.Pieces.{in_pieces}

-- n of the items satisfy a condition
abbrev pub IsCount : {A : Type 0} → (A → Type 0) → List A → ℕ → Type 0
IsCount P [] n = n ≡ 0
IsCount P (x ∷ xs) n = (P x × (k : ℕ) × (n ≡ k + 1) × IsCount P xs k) ⊎ ((¬ (P x)) × IsCount P xs n)

-- the lines that were run ahead of their turns and then settled, by how
abbrev pub spent : Tally → ℕ
spent tally = tally.taken_up + tally.unused + tally.wrong + tally.given_up

-- Each job ended in one way. If the recording is what running its lines gives, then the jobs are
-- counted, and the unused ones are those whose line is kept.
pub record IsTally (edit : ℕ → Option Edit) (cuts : List ℕ) (r : RecordingValue) (tally : Tally) : Type 0 where
  pub adds_up : tally.jobs ≡ spent tally
  pub jobs_are : IsRecordingOf (script_in r) r
      → IsCount (IsJob edit) (in_pieces cuts (moments_of edit r)) tally.jobs
  pub unused_are : IsRecordingOf (script_in r) r
      → IsCount (IsUnused edit) (in_pieces cuts (moments_of edit r)) tally.unused
