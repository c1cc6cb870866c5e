-- The patch of a repair.
use Rattle.std.specs.Prelude.{◌≡◌, ℕ, Bool, true, not, ◌&&◌, List, Option, Some, None, filter}
use Rattle.retro_keep.specs.Recording.{last_state}
use Rattle.retro_redo.specs.Repair.{repaired_state}
use Rattle.casebook_opaque.specs.Opaque.{is_opaque}
use Rattle.casebook_patch.specs.Changes.{ChangeValue}
use Rattle.casebook_patch.specs.Trees.{AreChanges}
use Rattle.casebook_patch.specs.Written.{written_changes}
use Rattle.casebook_request.specs.Request.{RepairRequest}
use Rattle.casebook_repairs.specs.Inputs.{InputsValue}
use Rattle.casebook_repairs.specs.Repairs.{IsAsked}
use Rattle.casebook_repairs.specs.declared.repairs.AskedRepair.{AskedRepair}

-- whether the bytes of a file, if there is one, don't stand for something else
abbrev pub is_own : Option (List ℕ) → Bool
is_own None = true
is_own (Some bytes) = not (is_opaque bytes)

-- whether both files of a change are kept
abbrev pub is_whole : ChangeValue → Bool
is_whole c = is_own c.old && is_own c.new

-- A text is the patch from the files at the end of a recording to those at the end of its repair,
-- without those that aren't kept.
pub record IsPatchOf (asked : AskedRepair) (text : List ℕ) : Type 0 where
  pub changes : List ChangeValue
  pub are_changes : AreChanges (last_state asked.recording.lines asked.recording.first).tree
      (repaired_state asked.repair).tree changes
  pub written : text ≡ written_changes (filter is_whole changes)

-- The text is the patch that is asked for.
pub record IsPatch (inputs : InputsValue) (request : RepairRequest) (text : List ℕ) : Type 0 where
  pub asked : AskedRepair
  pub is_asked : IsAsked inputs request asked
  pub is_patch : IsPatchOf asked text
