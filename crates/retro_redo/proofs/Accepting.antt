-- Edits that aren't refused, and refusals of others.
use Rattle.std.proofs.Common.{◌≡◌, ◌∙◌, ℕ, List, Err, ap, subst, sym}
use Rattle.std.specs.FinMap as finmap
use Rattle.std.specs.Option.{is_some}
use Rattle.retro_keep.specs.Edit.{edit_of}
use Rattle.retro_keep.specs.Recording.{RecordingValue}
use Rattle.retro_keep.specs.declared.edit.Edit.{Edit}
use Rattle.retro_keep.specs.declared.edit_fault.EditRefusal.{EditRefusal}
use Rattle.retro_keep.specs.declared.edit_fault.EditRefusal.TheVariants.{BeforeCheckpoint, NoSuchLine, TwoEdits}
use Rattle.retro_keep.proofs.Edited.{edited_are_lines}
use Rattle.retro_redo.specs.Editing.{AreAccepted, AreLines, EditMap, Refuses, edits_of_lines, is_line}
use Rattle.retro_redo.specs.RepairFault.{fault_of}
use Rattle.retro_redo.specs.declared.repair_fault.RepairFault.{RepairFault}

-- each edited number is a line's
pub accepted_lines : (m : EditMap) (edits : List Edit) (r : RecordingValue) → AreAccepted edits r
    → ((n : ℕ) → finmap.get m n ≡ edit_of edits n) → AreLines m r
accepted_lines m edits r accepted same n has =
    edited_are_lines r.from (is_line r) edits accepted n (sym (ap is_some (same n)) ∙ has)

by_refusal : (edits : List Edit) (r : RecordingValue) (refusal : EditRefusal) → edits_of_lines edits r ≡ Err refusal
    → Refuses edits r (fault_of refusal)
by_refusal edits r (TwoEdits n) e = e
by_refusal edits r (BeforeCheckpoint n) e = e
by_refusal edits r (NoSuchLine n) e = e

pub refuses : (edits : List Edit) (r : RecordingValue) (refusal : EditRefusal) (fault : RepairFault)
    → edits_of_lines edits r ≡ Err refusal → fault ≡ fault_of refusal → Refuses edits r fault
refuses edits r refusal fault e is = subst (Refuses edits r) (sym is) (by_refusal edits r refusal e)
