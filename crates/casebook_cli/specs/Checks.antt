-- What is said of whether a document is a recording, a case or a script.
use Rattle.std.specs.Prelude.{◌≡◌, ℕ, Bool, true, false, List, [], ◌∷◌, ◌++◌, Option, Some, None, Result, Ok, Err}
use Rattle.std.specs.Prelude.{codes, decimal, is_some, length}
use Rattle.serde_json.specs.Data.{Data}
use Rattle.serde_json.specs.Find.{get}
use Rattle.retro_json.specs.declared.fault.Refusal.{Refusal}
use Rattle.retro_keep.specs.Recording.{RecordingValue, IsRecordingOf, noted_at}
use Rattle.retro_keep.specs.Recording as recordings
use Rattle.retro_keep.specs.declared.noted.Noted.{Noted}
use Rattle.retro_keep.specs.Script.{ScriptValue}
use Rattle.retro_log.specs.Document.{json_of, script_in}
use Rattle.casebook_account.specs.Accounts.{IsAccountOf, IsNoAccount}
use Rattle.casebook_account.specs.Edits.{observed_numbers}
use Rattle.casebook_account.specs.declared.account.Account.{Account}
use Rattle.casebook_account.specs.declared.account.Machine.{Machine}
use Rattle.casebook_account.specs.declared.account_fault.AccountFault.{AccountFault}
use Rattle.casebook_account.specs.declared.account_fault.AccountFault.TheVariants as accounts
use Rattle.casebook_check.specs.Texts.{AreUnlikeLines}
use Rattle.casebook_recording.specs.Refusals.{fault_words}
use Rattle.retro_keep.specs.Unlike.{IsFirstUnlike}
use Rattle.retro_keep.specs.declared.unlike.Unlike.{Unlike}
use Rattle.casebook_check.specs.Place.{IsPlaceInLog, IsPlaceInScript}
use Rattle.casebook_check.specs.Words.{place_words}
use Rattle.casebook_check.specs.declared.place.Place.{Place}
use Rattle.casebook_text.specs.SafeLine.{text_of_lines}
use Rattle.casebook_about.specs.Labels.{no_labels}
use Rattle.casebook_repairs.specs.Inputs.{DocumentValue}
use Rattle.casebook_cli.specs.Messages.{about, numbered_words}

-- a document is refused, after words of what it isn't, and where
unfoldable pub refused_line : List ℕ → List ℕ → Refusal → Place → List ℕ
refused_line name words refusal place =
    ((about name words ++ numbered_words refusal) ++ codes ": ") ++ place_words place

-- a document is something of so many lines
abbrev pub counted_text : List ℕ → List ℕ → ℕ → List ℕ
counted_text name words count = text_of_lines ((about name words ++ decimal count ++ codes " lines") ∷ [])

-- the log isn't as its lines run
abbrev pub isnt_line : List ℕ → List ℕ
isnt_line name = about name (codes "not as its lines run. The first that isn't as noted:")

-- the lines that say how a line isn't as noted, if there is such a line
abbrev pub AreUnlike : Option Noted → Unlike → List (List ℕ) → Type 0
AreUnlike None unlike lines = lines ≡ []
AreUnlike (Some noted) unlike lines = AreUnlikeLines no_labels unlike.number noted unlike.run lines

-- The text says that a log isn't as its lines run, and of one of its lines how it isn't as noted.
pub record IsUnlikeText (name : List ℕ) (r : RecordingValue) (unlike : Unlike) (text : List ℕ) : Type 0 where
  pub lines : List (List ℕ)
  pub are_unlike : AreUnlike (noted_at unlike.number r.lines) unlike lines
  pub shown : text ≡ text_of_lines (isnt_line name ∷ lines)

-- The answer says that a log is a recording, which it is.
pub record SaysYes (name : List ℕ) (r : RecordingValue) (text : List ℕ) : Type 0 where
  pub is_recording : IsRecordingOf (recordings.script_in r) r
  pub shown : text ≡ counted_text name (codes "a recording of its ") (length r.lines)

-- The answer says that a log isn't as its lines run, and how the first line that isn't as noted
-- differs.
pub record SaysNo (name : List ℕ) (r : RecordingValue) (text : List ℕ) : Type 0 where
  pub unlike : Unlike
  pub first : IsFirstUnlike r unlike
  pub shown : IsUnlikeText name r unlike text

abbrev pub SaysOf : Bool → List ℕ → RecordingValue → List ℕ → Type 0
SaysOf false name r text = SaysYes name r text
SaysOf true name r text = SaysNo name r text

-- The answer says that a document is refused, after words of what it isn't, and a place where it
-- breaks the rule.
pub record SaysWhere (IsPlace : Place → Type 0) (name words : List ℕ) (refusal : Refusal) (is_no : Bool) (text : List ℕ)
    : Type 0 where
  pub place : Place
  pub is_place : IsPlace place
  pub says_no : is_no ≡ true
  pub shown : text ≡ text_of_lines (refused_line name words refusal place ∷ [])

-- a document is a case, of so many lines, of which so many stand as they were observed
abbrev pub case_text : List ℕ → ℕ → ℕ → List ℕ
case_text name count observed = text_of_lines ((about name (codes "a case of ") ++ decimal count ++ codes " lines, "
    ++ decimal observed ++ codes " of them as they were observed") ∷ [])

-- the answer says that a document is a case
abbrev pub SaysCase : List ℕ → Machine → Bool → List ℕ → Type 0
SaysCase name machine is_no text =
    (is_no ≡ false)
    × (text ≡ case_text name (length machine.lines.items) (length (observed_numbers machine.lines.items)))

-- The answer says why a document that says that it is a case isn't one, or which line left what can't
-- be there.
abbrev pub SaysNoCaseOf : List ℕ → List ℕ → Bool → List ℕ → Type 0
SaysNoCaseOf name words is_no text =
    (is_no ≡ true) × (text ≡ text_of_lines ((about name (codes "not a case: ") ++ words) ∷ []))

-- the answer about an account: that a log is a recording or isn't, or that a case is one
abbrev pub IsCheckedAs : List ℕ → Account → Option Machine → Bool → List ℕ → Type 0
IsCheckedAs name account None is_no text = SaysOf is_no name account.recording text
IsCheckedAs name account (Some machine) is_no text = SaysCase name machine is_no text

abbrev pub SaysNoCase : List ℕ → Option (List ℕ) → Bool → List ℕ → Type 0
SaysNoCase name None is_no text = ⊥
SaysNoCase name (Some words) is_no text = SaysNoCaseOf name words is_no text

-- the answer about a document without an account: where it isn't a log, or why it is no case
abbrev pub IsRefusedAs : DocumentValue → AccountFault → Bool → List ℕ → Type 0
IsRefusedAs document (accounts.Log refusal) is_no text =
    SaysWhere (IsPlaceInLog document.bytes refusal) document.name (codes "not a log: ") refusal is_no text
IsRefusedAs document (accounts.Case fault) is_no text = SaysNoCase document.name (fault_words fault) is_no text
IsRefusedAs document fault is_no text = ⊥

-- the answer about a document that was read as a log or as a case
pub data IsCheckedAccount (document : DocumentValue) (is_no : Bool) (text : List ℕ) : Type 0 where
  has_account : (account : Account) → IsAccountOf document.bytes account
      → IsCheckedAs document.name account account.machine is_no text → IsCheckedAccount document is_no text
  no_account : (fault : AccountFault) → IsNoAccount document.bytes fault → IsRefusedAs document fault is_no text
      → IsCheckedAccount document is_no text

-- the answer about a document that was read as a script
abbrev pub IsCheckedScript : DocumentValue → Result ScriptValue Refusal → Bool → List ℕ → Type 0
IsCheckedScript document (Ok script) is_no text =
    (is_no ≡ false) × (text ≡ counted_text document.name (codes "a script of ") (length script.lines))
IsCheckedScript document (Err refusal) is_no text =
    SaysWhere (IsPlaceInScript document.bytes refusal) document.name (codes "not a script: ") refusal is_no text

-- whether a JSON value has the key that scripts have and logs don't
abbrev pub has_script_key : Option Data → Bool
has_script_key None = false
has_script_key (Some d) = is_some (get (codes "script") d)

abbrev pub is_for_script : List ℕ → Bool
is_for_script bytes = has_script_key (json_of bytes)

abbrev pub IsCheckedIf : Bool → DocumentValue → Bool → List ℕ → Type 0
IsCheckedIf true document is_no text = IsCheckedScript document (script_in document.bytes) is_no text
IsCheckedIf false document is_no text = IsCheckedAccount document is_no text

abbrev pub IsChecked : DocumentValue → Bool → List ℕ → Type 0
IsChecked document is_no text = IsCheckedIf (is_for_script document.bytes) document is_no text
