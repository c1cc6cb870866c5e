-- The account that a document has.
use Rattle.std.specs.Prelude.{◌≡◌, ◌≤◌, ◌⊎◌, ◌^◌, ⊤, ℕ, ◌+◌, ◌++◌, List, [], ◌∷◌, Option, Some, None, Ok, Err, flat_map, length, map}
use Rattle.retro_json.specs.declared.fault.Refusal.{Refusal}
use Rattle.retro_keep.specs.Recording.{AllRecorded, RecordingValue}
use Rattle.retro_log.specs.Document.{log_in}
use Rattle.casebook_about.specs.Rows.{user_view}
use Rattle.casebook_case.specs.Reading.{case_in}
use Rattle.casebook_case.specs.declared.case.Case.{Case}
use Rattle.casebook_case.specs.declared.case_fault.CaseFault.{CaseFault}
use Rattle.casebook_case.specs.declared.case_fault.CaseFault.TheVariants as cases
use Rattle.casebook_record.specs.declared.start.Start.{Start}
use Rattle.casebook_typed.specs.Sessions.{SessionValue}
use Rattle.casebook_explain.specs.Noting.{recorded_lines, texts_of}
use Rattle.casebook_explain.specs.Value.{ToldValue}
use Rattle.casebook_explain.specs.declared.noting.Noting.TheVariants.{WithNeeds}
use Rattle.casebook_recording.specs.Told.{HasManySessions, IsToldOf, IsUntold, lines_in, sessions_in}
use Rattle.casebook_recording.specs.declared.recording_fault.RecordingFault.{RecordingFault}
use Rattle.casebook_recording.specs.declared.recording_fault.RecordingFault.TheVariants as recordings
use Rattle.casebook_account.specs.Attributes.{attributes_seen}
use Rattle.casebook_account.specs.Lacks.{incomplete_from, unseen_in}
use Rattle.casebook_account.specs.Machine.{IsTooMany, machine_from, printed}
use Rattle.casebook_account.specs.Shown.{HasNoShown, shown}
use Rattle.casebook_account.specs.declared.account.Account.{Account}
use Rattle.casebook_account.specs.declared.account.Machine.{Machine}
use Rattle.casebook_account.specs.declared.account_fault.AccountFault.{AccountFault}
use Rattle.casebook_account.specs.declared.account_fault.AccountFault.TheVariants as faults

-- ---- users

-- the user of the session with a number, if its login name is known
abbrev pub user_named : ℕ → List ℕ → List (ℕ × List ℕ)
user_named number [] = []
user_named number (b ∷ login) = (number, printed (b ∷ login)) ∷ []

abbrev pub user_if : ℕ → Option Start → List (ℕ × List ℕ)
user_if number None = []
user_if number (Some start) = user_named number start.login

-- the users of sessions, of which the first has a number
abbrev pub users_from : ℕ → List SessionValue → List (ℕ × List ℕ)
users_from number [] = []
users_from number (session ∷ sessions) =
    user_if number session.start ++ users_from (number + 1) sessions

-- ---- accounts of cases

-- the recording of told lines, with what each of them needs as notes of its first text
abbrev pub recording_told : ToldValue → RecordingValue
recording_told told =
    record { first = told.first; from = 1; lines = recorded_lines WithNeeds told.lines }

-- A machine has the lines of a case that were told, the users of its sessions, what the recorder
-- doesn't know, and the modes and owners that paths were seen to have.
pub record IsMachineOf (case : Case) (told : ToldValue) (machine : Machine) : Type 0 where
  pub lines : machine.lines.items ≡ machine_from 1 1 told.lines (lines_in case)
  pub users : map user_view machine.users.items ≡ users_from 1 (sessions_in case)
  pub incomplete : machine.incomplete.items ≡ incomplete_from 1 (sessions_in case)
  pub unseen : machine.unseen.items ≡ unseen_in case.unseen
  pub attributes : machine.attributes.items
      ≡ attributes_seen case.first.said machine.lines.items (lines_in case)

abbrev pub HasMachine : Case → ToldValue → Option Machine → Type 0
HasMachine case told None = ⊥
HasMachine case told (Some machine) = IsMachineOf case told machine

-- An account is that of a case: of what tells its lines. Each text runs as its recording has it, in
-- the state before it.
pub record IsCaseAccount (case : Case) (account : Account) : Type 0 where
  pub told : ToldValue
  pub is_told : IsToldOf case told
  pub recording : account.recording ≡ recording_told told
  pub recorded : AllRecorded account.recording.lines account.recording.first
  pub machine : HasMachine case told account.machine

-- what tells the lines of a case has more lines or texts than 32 bits number
pub record ToldTooMany (case : Case) : Type 0 where
  pub told : ToldValue
  pub is_told : IsToldOf case told
  pub many : IsTooMany told.lines ⊎ 2 ^ 32 ≤ length (flat_map (texts_of WithNeeds) told.lines)

-- why a case has no account
abbrev pub IsNoCase : Case → RecordingFault → Type 0
IsNoCase case recordings.TooManySessions =
    HasManySessions case
IsNoCase case recordings.TooManyLines = IsUntold case recordings.TooManyLines ⊎ ToldTooMany case
IsNoCase case fault = IsUntold case fault

-- ---- accounts of documents

-- an account is that of a document that isn't a log, and is a case
pub record IsOtherAccount (bytes : List ℕ) (account : Account) : Type 0 where
  pub case : Case
  pub is_case : case_in bytes ≡ Ok case
  pub is_account : IsCaseAccount case account

-- an account is that of a log
pub record IsLogAccount (bytes : List ℕ) (account : Account) : Type 0 where
  pub log : log_in bytes ≡ Ok account.recording
  pub machine : account.machine ≡ None

-- A document that isn't a log has an account for this reason.
pub record IsNotALog (bytes : List ℕ) : Type 0 where
  pub refusal : Refusal
  pub refused : log_in bytes ≡ Err refusal

-- the account of a document: that of a log, or if it is none, that of a case
pub data IsAccountOf (bytes : List ℕ) (account : Account) : Type 0 where
  of_log : IsLogAccount bytes account → IsAccountOf bytes account
  of_case : IsNotALog bytes → IsOtherAccount bytes account → IsAccountOf bytes account

-- a document says that it is a case, and has this fault
abbrev pub IsCaseFault : CaseFault → Type 0
IsCaseFault cases.NoMem = ⊥
IsCaseFault cases.NotText = ⊥
IsCaseFault cases.NotJson = ⊥
IsCaseFault cases.NotACase = ⊥
IsCaseFault fault = ⊤

-- a document doesn't say that it is a case
abbrev pub IsNotOfCase : CaseFault → Type 0
IsNotOfCase cases.NotText = ⊤
IsNotOfCase cases.NotJson = ⊤
IsNotOfCase cases.NotACase = ⊤
IsNotOfCase fault = ⊥

-- bytes are a case that has no account, for this reason
pub record HasNoRecording (bytes : List ℕ) (fault : RecordingFault) : Type 0 where
  pub case : Case
  pub is_case : case_in bytes ≡ Ok case
  pub is_fault : IsNoCase case fault

pub record SaysNoCase (bytes : List ℕ) : Type 0 where
  pub fault : CaseFault
  pub is_fault : case_in bytes ≡ Err fault
  pub says_none : IsNotOfCase fault

-- a case isn't read, or has no recording
abbrev pub IsNoRecording : List ℕ → RecordingFault → Type 0
IsNoRecording bytes (recordings.Case fault) = (case_in bytes ≡ Err fault) × IsCaseFault fault
IsNoRecording bytes fault = HasNoRecording bytes fault

-- a document that isn't a log, for this refusal, has no account for this reason
abbrev pub IsNoOther : List ℕ → Refusal → AccountFault → Type 0
IsNoOther bytes refusal faults.NoMem = ⊤
IsNoOther bytes refusal (faults.Log found) = (found ≡ refusal) × SaysNoCase bytes
IsNoOther bytes refusal (faults.Case fault) = IsNoRecording bytes fault
IsNoOther bytes refusal fault = ⊥

-- A document has no account, for this reason: it is no log, and no case.
abbrev pub IsNoAccount : List ℕ → AccountFault → Type 0
IsNoAccount bytes faults.NoMem = ⊤
IsNoAccount bytes (faults.Log refusal) = (log_in bytes ≡ Err refusal) × SaysNoCase bytes
IsNoAccount bytes (faults.Case fault) = IsNotALog bytes × IsNoRecording bytes fault
IsNoAccount bytes fault = ⊥

-- ---- as they are shown

-- An account is that of a document, with its recording as it is shown.
pub record IsShownAccount (bytes : List ℕ) (shown_account : Account) : Type 0 where
  pub account : Account
  pub is_account : IsAccountOf bytes account
  pub recording : shown_account.recording ≡ shown account account.recording
  pub machine : shown_account.machine ≡ account.machine

-- a document has no such account: it has none, or its recording can't be shown
pub data IsNotShown (bytes : List ℕ) (fault : AccountFault) : Type 0 where
  no_account : IsNoAccount bytes fault → IsNotShown bytes fault
  unshown : (account : Account) → IsAccountOf bytes account → HasNoShown account account.recording fault
      → IsNotShown bytes fault
