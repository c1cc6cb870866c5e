-- Why there is no repair, and why documents have no account and no names and times.
use Rattle.std.specs.Prelude.{◌≡◌, ℕ, ℤ, List, Option, Some, None, Ok, Err}
use Rattle.std.specs.List.{slice_get}
use Rattle.std.specs.Str.{IsUtf8}
use Rattle.retro_keep.specs.Recording.{RecordingValue}
use Rattle.retro_keep.specs.declared.edit.Edit.{Edit}
use Rattle.retro_json.specs.declared.fault.Refusal.{Refusal}
use Rattle.retro_redo.specs.Editing.{Refuses}
use Rattle.retro_redo.specs.RepairFault.{fault_number}
use Rattle.retro_redo.specs.declared.repair.Repair.{Repair}
use Rattle.retro_redo.specs.declared.repair_fault.RepairFault.{RepairFault}
use Rattle.retro_redo.specs.declared.repair_fault.RepairFault.TheVariants as repair_faults
use Rattle.retro_rounds.specs.Refusals.{IsRefusal}
use Rattle.casebook_about.specs.About.{AboutView, about_in}
use Rattle.casebook_account.specs.Accounts.{IsAccountOf, IsNotShown}
use Rattle.casebook_account.specs.Edits.{HasNoText, known_lines, text_edits}
use Rattle.casebook_account.specs.Shown.{HasNoShown}
use Rattle.casebook_account.specs.declared.account.Account.{Account}
use Rattle.casebook_account.specs.declared.account.Machine.{Machine}
use Rattle.casebook_account.specs.declared.account_fault.AccountFault.{AccountFault}
use Rattle.casebook_account.specs.declared.account_fault.AccountFault.TheVariants as accounts
use Rattle.casebook_text.specs.Item.{Line}
use Rattle.casebook_text.specs.Lists.{lines_of_list}
use Rattle.casebook_request.specs.Sources.{SourcesValue}
use Rattle.casebook_request.specs.Request.{RepairRequest, RoundsValue}
use Rattle.casebook_repairs.specs.Documents.{AllDocuments}
use Rattle.casebook_repairs.specs.Inputs.{DocumentValue, InputsValue}
use Rattle.casebook_repairs.specs.Labels.{IsAbout, times_by}
use Rattle.casebook_repairs.specs.Repairs.{AreEdits, IsListGiven}
use Rattle.casebook_recording.specs.Refusals.{refusal_of}
use Rattle.casebook_recording.specs.declared.refusal.CaseRefusal.{CaseRefusal}
use Rattle.casebook_repairs.specs.declared.stop.Stop.{Stop}
use Rattle.casebook_repairs.specs.declared.stop.Stop.TheVariants as stops

-- ---- reading

-- the document with a name can't be read
abbrev pub IsUnread : AllDocuments → List ℕ → Stop → Type 0
IsUnread at wanted (stops.ReadFailed name hindrance) = (name.now ≡ wanted) × (at wanted ≡ None)
IsUnread at wanted stops.OutOfMemory = Unit {0}
IsUnread at wanted other = ⊥

abbrev pub IsUnreadIf : AllDocuments → Option (List ℕ) → Stop → Type 0
IsUnreadIf at None stop = ⊥
IsUnreadIf at (Some wanted) stop = IsUnread at wanted stop

-- one of some documents can't be read
pub data StopsReading (at : AllDocuments) (sources : SourcesValue) (stop : Stop) : Type 0 where
  no_log : IsUnread at sources.log stop → StopsReading at sources stop
  no_list : IsUnreadIf at sources.list stop → StopsReading at sources stop
  no_about : IsUnreadIf at sources.about stop → StopsReading at sources stop

-- ---- documents

-- the document with a name is no log, for this refusal
abbrev pub IsBadLog : List ℕ → Refusal → Stop → Type 0
IsBadLog wanted refusal (stops.BadLog name found) = (name.now ≡ wanted) × (found ≡ refusal)
IsBadLog wanted refusal other = ⊥

-- the document with a name is refused like this
abbrev pub IsBadCase : List ℕ → CaseRefusal → Stop → Type 0
IsBadCase wanted refusal (stops.BadCase name found) = (name.now ≡ wanted) × (found ≡ refusal)
IsBadCase wanted refusal other = ⊥

-- the document with a name is named, with why it has no log, or memory ran out
abbrev pub NamesCase : List ℕ → Option CaseRefusal → Stop → Type 0
NamesCase name None stop = stop ≡ stops.OutOfMemory
NamesCase name (Some refusal) stop = IsBadCase name refusal stop

-- the lines of the document with a name can't be shown
abbrev pub IsUnshown : List ℕ → Stop → Type 0
IsUnshown wanted (stops.Unshown name) = name.now ≡ wanted
IsUnshown wanted other = ⊥

-- The fault of an account is said, with the name of its document where it is one of that. That no
-- line is replaced which isn't there is refused as it is of a log.
abbrev pub NamesAccount : List ℕ → AccountFault → Stop → Type 0
NamesAccount name accounts.NoMem stop = stop ≡ stops.OutOfMemory
NamesAccount name (accounts.Log refusal) stop = IsBadLog name refusal stop
NamesAccount name (accounts.Case fault) stop = NamesCase name (refusal_of fault) stop
NamesAccount name (accounts.NoLine number) stop = stop ≡ stops.BadRepair 21
NamesAccount name accounts.Unshown stop = IsUnshown name stop

-- A document has no account, or one that can't be shown.
pub record StopsAccount (document : DocumentValue) (stop : Stop) : Type 0 where
  pub fault : AccountFault
  pub is_fault : IsNotShown document.bytes fault
  pub names : NamesAccount document.name fault stop

-- a document doesn't hold names and times
abbrev pub IsNoAbout : DocumentValue → Stop → Type 0
IsNoAbout document (stops.BadText name) = (name.now ≡ document.name) × ¬ (IsUtf8 document.bytes)
IsNoAbout document (stops.BadAbout name fault) = (name.now ≡ document.name) × (about_in document.bytes ≡ Err fault)
IsNoAbout document stops.OutOfMemory = Unit {0}
IsNoAbout document other = ⊥

-- the time of a line can't be shown
abbrev pub IsBadTime : ℕ → Stop → Type 0
IsBadTime number (stops.BadTime named) = named ≡ number
IsBadTime number stops.OutOfMemory = Unit {0}
IsBadTime number other = ⊥

-- The time of one of some lines can't be shown.
pub record AreBadTimes (times : List (ℕ × ℤ)) (stop : Stop) : Type 0 where
  pub index : ℕ
  pub time : ℕ × ℤ
  pub found : slice_get times index ≡ Some time
  pub is_bad : IsBadTime time.0 stop

pub data StopsAbout (document : DocumentValue) (stop : Stop) : Type 0 where
  no_about : IsNoAbout document stop → StopsAbout document stop
  bad_time : (about : AboutView) → IsAbout document about → AreBadTimes about.times stop → StopsAbout document stop
  no_memory : stop ≡ stops.OutOfMemory → StopsAbout document stop

-- the time of a line of a machine can't be shown, or memory ran out
pub data StopsOwn (machine : Option Machine) (stop : Stop) : Type 0 where
  bad_own_time : AreBadTimes (times_by machine) stop → StopsOwn machine stop
  no_own_memory : stop ≡ stops.OutOfMemory → StopsOwn machine stop

-- the names and times of lines aren't read
pub data StopsLabels (machine : Option Machine) (about : Option DocumentValue) (stop : Stop) : Type 0 where
  bad_own : StopsOwn machine stop → StopsLabels machine about stop
  bad_about : (document : DocumentValue) → about ≡ Some document → StopsAbout document stop
      → StopsLabels machine about stop

-- ---- repairs

-- the document that should have the list isn't UTF-8
abbrev pub IsNoTextOf : DocumentValue → Stop → Type 0
IsNoTextOf document (stops.BadText name) = (name.now ≡ document.name) × ¬ (IsUtf8 document.bytes)
IsNoTextOf document stops.OutOfMemory = Unit {0}
IsNoTextOf document other = ⊥

abbrev pub IsNoText : Option DocumentValue → Stop → Type 0
IsNoText None stop = stop ≡ stops.OutOfMemory
IsNoText (Some document) stop = IsNoTextOf document stop

-- a list is refused
abbrev pub StopsNumbers : List Line → List ℕ → Stop → Type 0
StopsNumbers known list (stops.BadList fault) = lines_of_list known list ≡ Err fault
StopsNumbers known list stops.OutOfMemory = Unit {0}
StopsNumbers known list other = ⊥

-- edits are refused, or how they are made in parallel
abbrev pub RefusesBy : Option RoundsValue → List Edit → RecordingValue → RepairFault → Type 0
RefusesBy None edits r fault = Refuses edits r fault
RefusesBy (Some rounds) edits r fault = IsRefusal rounds.workers rounds.cuts edits r fault

-- A repair is refused, with a number.
pub record IsRefusedBy (rounds : Option RoundsValue) (edits : List Edit) (r : RecordingValue) (number : ℕ)
    : Type 0 where
  pub fault : RepairFault
  pub is : number ≡ fault_number fault
  pub refused : RefusesBy rounds edits r fault

abbrev pub StopsRepair : Option RoundsValue → List Edit → RecordingValue → Stop → Type 0
StopsRepair rounds edits r (stops.BadRepair number) = IsRefusedBy rounds edits r number
StopsRepair rounds edits r stops.OutOfMemory = Unit {0}
StopsRepair rounds edits r other = ⊥

-- why there is no answer after the fault of a repair
abbrev pub IsRefused : RepairFault → Stop → Type 0
IsRefused repair_faults.OutOfMemory stop = stop ≡ stops.OutOfMemory
IsRefused fault stop = stop ≡ stops.BadRepair (fault_number fault)

-- An account's lines aren't edited, or they or their repair can't be shown.
pub record StopsEdits (IsFault : AccountFault → Type 0) (document : DocumentValue) (stop : Stop) : Type 0 where
  pub fault : AccountFault
  pub is_fault : IsFault fault
  pub names : NamesAccount document.name fault stop

-- A repair of an account can't be shown, or memory ran out.
pub data IsUnshownRepair (account : Account) (repair : Repair) (document : DocumentValue) (stop : Stop) : Type 0 where
  is_unshown : StopsEdits (HasNoShown account repair.recording) document stop
      → IsUnshownRepair account repair document stop
  out_of_memory : stop ≡ stops.OutOfMemory → IsUnshownRepair account repair document stop

-- There is no repair of the account of the document that is named.
pub data StopsRepaired (inputs : InputsValue) (request : RepairRequest) (account : Account) (stop : Stop)
    : Type 0 where
  no_labels : StopsLabels account.machine inputs.about stop → StopsRepaired inputs request account stop
  no_list : IsNoText inputs.list stop → StopsRepaired inputs request account stop
  no_numbers : (list : List ℕ) → IsListGiven request.cancel inputs.list list
      → StopsNumbers (known_lines account) list stop → StopsRepaired inputs request account stop
  no_texts : (list : List ℕ) (edits : List Edit) → IsListGiven request.cancel inputs.list list
      → AreEdits list request.replacements (known_lines account) edits
      → StopsEdits (HasNoText account edits) inputs.log stop → StopsRepaired inputs request account stop
  no_repair : (list : List ℕ) (edits texts : List Edit) → IsListGiven request.cancel inputs.list list
      → AreEdits list request.replacements (known_lines account) edits → text_edits account edits ≡ Ok texts
      → StopsRepair request.rounds texts account.recording stop → StopsRepaired inputs request account stop
  no_screen : (r : RecordingValue) → StopsEdits (HasNoShown account r) inputs.log stop
      → StopsRepaired inputs request account stop
  no_memory : stop ≡ stops.OutOfMemory → StopsRepaired inputs request account stop

pub data StopsAsked (inputs : InputsValue) (request : RepairRequest) (stop : Stop) : Type 0 where
  no_account : StopsAccount inputs.log stop → StopsAsked inputs request stop
  not_repaired : (account : Account) → IsAccountOf inputs.log.bytes account
      → StopsRepaired inputs request account stop → StopsAsked inputs request stop
