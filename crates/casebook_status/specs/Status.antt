-- What a recorder kept.
use Rattle.std.specs.Prelude.{◌≡◌, ◌||◌, ◌==◌, ⊤, ℕ, Bool, true, false, not, List, [], ◌∷◌, ◌++◌, Option, Some, None, Ok, Err, length, map, option_map}
use Rattle.std.specs.List.{list_any}
use Rattle.retro_path.specs.Path.{PathValue}
use Rattle.casebook_case.specs.Reading.{case_in}
use Rattle.casebook_case.specs.declared.case.Case.{Case}
use Rattle.casebook_explain.specs.Value.{ToldValue}
use Rattle.casebook_explain.specs.declared.told.ToldLine.{ToldLine}
use Rattle.casebook_host.specs.LoginViews.{login_value}
use Rattle.casebook_host.specs.Logins.{LoginValue}
use Rattle.casebook_recording.specs.Told.{IsToldOf, IsUntold, lines_in, sessions_in}
use Rattle.casebook_recording.specs.declared.recording_fault.RecordingFault.{RecordingFault}
use Rattle.casebook_recording.specs.declared.recording_fault.RecordingFault.TheVariants as faults
use Rattle.casebook_typed.specs.Lines.{LineValue}
use Rattle.casebook_typed.specs.Sessions.{SessionValue}
use Rattle.casebook_status.specs.Counts.{counts_of}
use Rattle.casebook_status.specs.Logins.{unrecorded}
use Rattle.casebook_status.specs.Recorded.{IsRecordedRow}
use Rattle.casebook_status.specs.Rows.{Text, case_row, folders_row, lines_row, logins_row, missing_row, outside_row, overlaps_row, reads_row, sessions_row}
use Rattle.casebook_status.specs.declared.host.Host.{Host}
use Rattle.casebook_status.specs.declared.status.Status.{Status}

-- what a machine says of itself: the folders, those in which it isn't seen what lines only read, and
-- who is logged in
pub record HostValue : Type 0 where
  pub folders : List PathValue
  pub unseen : Option (List PathValue)
  pub logins : Option (List LoginValue)

abbrev pub host_view : Host → HostValue
host_view host = record {
  folders = host.folders.now;
  unseen = option_map (λ paths. map (λ p. p.now) paths.items) host.unseen;
  logins = option_map (λ logins. map login_value logins.items) host.logins;
}

-- ---- what is missing

-- whether some line has no record
abbrev pub has_missing : List SessionValue → Bool
has_missing sessions = list_any (λ session. not (session.missing == 0)) sessions

-- whether it isn't seen in all folders what lines only read
abbrev pub is_unseen : Option (List PathValue) → Bool
is_unseen None = true
is_unseen (Some []) = false
is_unseen (Some (path ∷ paths)) = true

-- whether some of the logins that are given weren't recorded, or none is given
abbrev pub lacks_logins : List SessionValue → Option (List LoginValue) → Bool
lacks_logins sessions None = false
lacks_logins sessions (Some logins) =
    length logins == 0 || not (length (unrecorded sessions logins) == 0)

abbrev pub lacks : List SessionValue → HostValue → Bool
lacks sessions host =
    has_missing sessions || is_unseen host.unseen || lacks_logins sessions host.logins

-- ---- the rows

abbrev pub login_rows : List SessionValue → Option (List LoginValue) → List Text
login_rows sessions None = []
login_rows sessions (Some logins) = logins_row logins (unrecorded sessions logins) ∷ []

-- the rows after the first one, up to that of logins, by the sessions, the lines as they were typed
-- and told, and what the machine says of itself
abbrev pub rows_of : List SessionValue → List LineValue → List ToldLine → HostValue → List Text
rows_of sessions typed told host =
    folders_row host.folders ∷ sessions_row sessions ∷ lines_row (counts_of told typed)
    ∷ overlaps_row (counts_of told typed) ∷ outside_row (counts_of told typed)
    ∷ missing_row sessions ∷ reads_row host.unseen ∷ []

-- rows are these, after one that says when lines were recorded
pub record HasRows (sessions : List SessionValue) (typed : List LineValue) (told : List ToldLine)
    (host : HostValue) (rows : List Text) : Type 0 where
  pub recorded : Text
  pub is_recorded : IsRecordedRow typed recorded
  pub are_rows : rows ≡ recorded ∷ rows_of sessions typed told host

-- rows are those, and then one of logins, if some are given, and one of the length of the case
pub record HasAllRows (sessions : List SessionValue) (typed : List LineValue) (told : List ToldLine)
    (size : ℕ) (host : HostValue) (rows : List Text) : Type 0 where
  pub front : List Text
  pub has_front : HasRows sessions typed told host front
  pub are_rows : rows ≡ front ++ login_rows sessions host.logins ++ case_row size ∷ []

-- what was kept, by sessions and lines
pub record IsStatusBy (sessions : List SessionValue) (typed : List LineValue) (told : List ToldLine) (size : ℕ)
    (host : HostValue) (status : Status) : Type 0 where
  pub rows : HasAllRows sessions typed told size host status.rows.items
  pub lacks : status.lacks ≡ lacks sessions host

-- A status is that of the case that a text is: what it says is counted of the case's sessions and
-- lines, as they were typed and told.
pub record IsStatusIn (text : List ℕ) (host : HostValue) (status : Status) : Type 0 where
  pub case : Case
  pub is_case : case_in text ≡ Ok case
  pub told : ToldValue
  pub is_told : IsToldOf case told
  pub is_status : IsStatusBy (sessions_in case) (lines_in case) told.lines (length text) host status

-- a text is a case whose lines can't be told, for this reason
pub record IsUntoldIn (text : List ℕ) (fault : RecordingFault) : Type 0 where
  pub case : Case
  pub is_case : case_in text ≡ Ok case
  pub is_fault : IsUntold case fault

-- a text has no status: it is no case, or its lines can't be told
abbrev pub HasNoStatus : List ℕ → RecordingFault → Type 0
HasNoStatus text faults.NoMem = ⊤
HasNoStatus text (faults.Case fault) = case_in text ≡ Err fault
HasNoStatus text fault = IsUntoldIn text fault
