-- The repairs that are asked for.
use Rattle.std.specs.Prelude.{◌≡◌, true, List, ℕ, ◌++◌, Option, Some, None, Ok, map, option_map}
use Rattle.std.specs.Str.{IsUtf8}
use Rattle.retro_keep.specs.Edit.{edit_of}
use Rattle.retro_keep.specs.Recording.{RecordingValue, IsRecordingOf}
use Rattle.retro_keep.specs.Recording as recordings
use Rattle.retro_keep.specs.declared.edit.Edit.{Edit}
use Rattle.retro_keep.specs.declared.edit.Edit.TheVariants.{Cancel}
use Rattle.retro_redo.specs.Editing.{AreAccepted}
use Rattle.retro_redo.specs.Repair.{IsRepair}
use Rattle.retro_redo.specs.Settled.{AreSettled}
use Rattle.retro_redo.specs.declared.repair.Repair.{Repair}
use Rattle.retro_rounds.specs.Refusals.{IsAccepted}
use Rattle.casebook_account.specs.Accounts.{IsAccountOf}
use Rattle.casebook_account.specs.Edits.{known_lines, text_edits}
use Rattle.casebook_account.specs.Shown.{shown, shown_settled}
use Rattle.casebook_account.specs.declared.account.Account.{Account}
use Rattle.casebook_text.specs.ListFile.{list_of_file}
use Rattle.casebook_text.specs.Item.{Line}
use Rattle.casebook_text.specs.Lists.{lines_of_list}
use Rattle.casebook_view.specs.Sources.{SourceValue}
use Rattle.casebook_request.specs.Request.{RepairRequest, RoundsValue}
use Rattle.casebook_repairs.specs.Attributes.{attributes_by}
use Rattle.casebook_repairs.specs.Inputs.{DocumentValue, InputsValue}
use Rattle.casebook_repairs.specs.Labels.{AreLabels, lines_view, seen_by, source_by}
use Rattle.casebook_repairs.specs.declared.repairs.AskedRepair.{AskedRepair}

-- ---- lists of lines

-- The document has this list.
pub record IsListIn (document : DocumentValue) (list : List ℕ) : Type 0 where
  pub is_text : IsUtf8 document.bytes
  pub is_list : list ≡ list_of_file document.bytes

-- the list of what is given: itself, or that of the document which is named
abbrev pub IsListGiven : List ℕ → Option DocumentValue → List ℕ → Type 0
IsListGiven given None list = list ≡ given
IsListGiven given (Some document) list = IsListIn document list

-- ---- repairs

-- nothing is refused of edits, nor of how they are made in parallel
abbrev pub Accepts : Option RoundsValue → List Edit → RecordingValue → Type 0
Accepts None edits r = AreAccepted edits r
Accepts (Some rounds) edits r = IsAccepted rounds.workers rounds.cuts edits r

-- The repair of a recording with its lines edited, of which nothing is refused. It is exact if the
-- recording is one of its lines. For any log, also a forged one, it is what choices for its lines
-- come to.
pub record IsRepairBy (rounds : Option RoundsValue) (edits : List Edit) (r : RecordingValue) (repair : Repair)
    : Type 0 where
  pub accepted : Accepts rounds edits r
  pub is_repair : IsRecordingOf (recordings.script_in r) r → IsRepair (edit_of edits) r repair
  pub settled : AreSettled (edit_of edits) r repair

-- the edits that leave out the lines with these numbers
abbrev pub cancelled : List ℕ → List Edit
cancelled numbers = map Cancel numbers

-- The edits of lines: those that a list names are left out, and then some are replaced.
pub record AreEdits (list : List ℕ) (replacements : List Edit) (lines : List Line) (edits : List Edit) : Type 0 where
  pub numbers : List ℕ
  pub are_numbers : lines_of_list lines list ≡ Ok numbers
  pub are_edits : edits ≡ cancelled numbers ++ replacements

-- What is shown of a repair of an account is its recording and the repaired one, each as it is shown,
-- and what the repair did with each line.
pub record IsShownRepair (account : Account) (repair : Repair) (r : RecordingValue) (repaired : Repair) : Type 0 where
  pub recording : r ≡ shown account account.recording
  pub repaired_recording : repaired.recording ≡ shown account repair.recording
  pub lines : repaired.lines.items ≡ shown_settled account repair.lines.items
  pub tally : repaired.tally ≡ repair.tally

-- A repair of an account by edits of its lines, as it is shown.
pub record IsRepairedBy (rounds : Option RoundsValue) (account : Account) (edits : List Edit) (r : RecordingValue)
    (repaired : Repair) : Type 0 where
  pub texts : List Edit
  pub are_texts : text_edits account edits ≡ Ok texts
  pub repair : Repair
  pub is_repair : IsRepairBy rounds texts account.recording repair
  pub is_shown : IsShownRepair account repair r repaired

-- The repair of the log or of the case that is asked for, with names and times, with the numbers of
-- the lines that stand as they were observed, and with the modes and owners that were seen. A log is
-- said to be as its lines run only if it is.
pub record IsAsked (inputs : InputsValue) (request : RepairRequest) (asked : AskedRepair) : Type 0 where
  pub account : Account
  pub is_account : IsAccountOf inputs.log.bytes account
  pub list : List ℕ
  pub is_list : IsListGiven request.cancel inputs.list list
  pub are_edits : AreEdits list request.replacements (known_lines account) asked.edits.items
  pub is_repair : IsRepairedBy request.rounds account asked.edits.items asked.recording asked.repair
  pub labels : AreLabels account.machine inputs.about asked.labels
  pub seen : option_map lines_view asked.seen ≡ seen_by account.machine
  pub attributes : asked.attributes.items ≡ attributes_by account.machine
  pub checked : asked.is_recording ≡ true → IsRecordingOf (recordings.script_in asked.recording) asked.recording

-- where the lines of a repair come from that is asked for
abbrev pub asked_source : AskedRepair → SourceValue
asked_source asked = source_by (option_map lines_view asked.seen)
