-- Edits of a recording, and which of them a repair refuses.
use Rattle.std.specs.Prelude.{◌≡◌, ℕ, Bool, true, List, Result, Ok, Err, ⊤, is_some}
use Rattle.std.specs.FinMap as map
use Rattle.std.specs.Ordering.{nat_cmp}
use Rattle.retro_keep.specs.Edit.{edits_tested}
use Rattle.retro_keep.specs.Recording.{RecordingValue, noted_at}
use Rattle.retro_keep.specs.declared.edit.Edit.{Edit}
use Rattle.retro_keep.specs.declared.edit_fault.EditRefusal.{EditRefusal}
use Rattle.retro_keep.specs.declared.edit_fault.EditRefusal.TheVariants as refusals
use Rattle.retro_redo.specs.declared.repair_fault.RepairFault.{RepairFault}
use Rattle.retro_redo.specs.declared.repair_fault.RepairFault.TheVariants.{NoSuchLine, NoCut, TooManyWorkers}
use Rattle.retro_redo.specs.declared.repair_fault.RepairFault.TheVariants.{TwoEdits, BeforeCheckpoint, OutOfMemory}

-- edits by the numbers of their lines
abbrev pub EditMap : Type 0
EditMap = map.FinMap nat_cmp Edit

-- whether a line has a number
abbrev pub is_line : RecordingValue → ℕ → Bool
is_line r n = is_some (noted_at n r.lines)

-- each edited number is a line's
abbrev pub AreLines : EditMap → RecordingValue → Type 0
AreLines edits r = (n : ℕ) → map.contains_key edits n ≡ true → is_line r n ≡ true

-- whether the lines of a recording can be edited so, or the first refusal
abbrev pub edits_of_lines : List Edit → RecordingValue → Result ⊤ EditRefusal
edits_of_lines edits r = edits_tested r.from (is_line r) edits

-- no edit is refused
abbrev pub AreAccepted : List Edit → RecordingValue → Type 0
AreAccepted edits r = edits_of_lines edits r ≡ Ok tt

-- A repair is refused as its edits are. Memory runs out only if no edit is refused.
abbrev pub Refuses : List Edit → RecordingValue → RepairFault → Type 0
Refuses edits r (TwoEdits n) = edits_of_lines edits r ≡ Err (refusals.TwoEdits n)
Refuses edits r (BeforeCheckpoint n) = edits_of_lines edits r ≡ Err (refusals.BeforeCheckpoint n)
Refuses edits r (NoSuchLine n) = edits_of_lines edits r ≡ Err (refusals.NoSuchLine n)
Refuses edits r NoCut = ⊥
Refuses edits r TooManyWorkers = ⊥
Refuses edits r OutOfMemory = AreAccepted edits r
