-- When a repair in rounds is refused, and with which of several refusals.
use Rattle.std.specs.Prelude.{◌≡◌, ◌≤◌, ◌<◌, ℕ, List, [], ◌∷◌, Bool, true, false, not, ◌==◌, Err}
use Rattle.std.specs.List.{list_all}
use Rattle.retro_keep.specs.Recording.{RecordingValue}
use Rattle.retro_keep.specs.declared.edit.Edit.{Edit}
use Rattle.retro_keep.specs.declared.edit_fault.EditRefusal.TheVariants as refusals
use Rattle.retro_redo.specs.Editing.{AreAccepted, edits_of_lines}
use Rattle.retro_redo.specs.declared.repair_fault.RepairFault.{RepairFault}
use Rattle.retro_redo.specs.declared.repair_fault.RepairFault.TheVariants.{NoSuchLine, NoCut, TooManyWorkers}
use Rattle.retro_redo.specs.declared.repair_fault.RepairFault.TheVariants.{TwoEdits, BeforeCheckpoint, OutOfMemory}
use Rattle.retro_rounds.specs.declared.rounds_request.TheConstants.{MAX_WORKERS}

-- whether numbers of lines cut a recording into pieces: there is a number, and none is zero
abbrev pub are_cuts : List ℕ → Bool
are_cuts [] = false
are_cuts (n ∷ cuts) = list_all (λ k. not (k == 0)) (n ∷ cuts)

-- nothing in what a repair is asked is refused
pub record IsAccepted (workers : ℕ) (cuts : List ℕ) (edits : List Edit) (r : RecordingValue) : Type 0 where
  pub workers_are : workers ≤ MAX_WORKERS
  pub cuts_are : are_cuts cuts ≡ true
  pub edits_are : AreAccepted edits r

-- Too many workers are refused first, then what isn't a cut into pieces, then two different edits
-- of a line, then an edit of a number, from 1 on, that is below the one at which the recording
-- begins, and then an edit of a number that no line has. Memory runs out only if none of these is
-- refused.
abbrev pub IsRefusal : ℕ → List ℕ → List Edit → RecordingValue → RepairFault → Type 0
IsRefusal workers cuts edits r TooManyWorkers = MAX_WORKERS < workers
IsRefusal workers cuts edits r NoCut = (workers ≤ MAX_WORKERS) × (are_cuts cuts ≡ false)
IsRefusal workers cuts edits r (TwoEdits n) =
    (workers ≤ MAX_WORKERS) × (are_cuts cuts ≡ true) × (edits_of_lines edits r ≡ Err (refusals.TwoEdits n))
IsRefusal workers cuts edits r (BeforeCheckpoint n) =
    (workers ≤ MAX_WORKERS) × (are_cuts cuts ≡ true) × (edits_of_lines edits r ≡ Err (refusals.BeforeCheckpoint n))
IsRefusal workers cuts edits r (NoSuchLine n) =
    (workers ≤ MAX_WORKERS) × (are_cuts cuts ≡ true) × (edits_of_lines edits r ≡ Err (refusals.NoSuchLine n))
IsRefusal workers cuts edits r OutOfMemory = IsAccepted workers cuts edits r
