-- What spools hold after they were made, and after they took a record.
use Rattle.std.specs.Prelude.{◌≡◌, ◌≢◌, ◌⊎◌, ◌≤◌, ◌<◌, ℕ, List, Option, Some, None, Result, Ok, Err, IsOk, length}
use Rattle.retro_path.specs.Path.{PathValue}
use Rattle.casebook_record.specs.Fields.{fields_of}
use Rattle.casebook_record.specs.Records.{record_of}
use Rattle.casebook_record.specs.declared.record.Record.{Record}
use Rattle.casebook_record.specs.declared.record_error.RecordError.{RecordError}
use Rattle.casebook_observe.specs.Files.{SpoolFiles}
use Rattle.casebook_observe.specs.Last.{last_look}
use Rattle.casebook_observe.specs.Observed.{IsListed, IsTaken, started}
use Rattle.casebook_observe.specs.Refusals.{IsRefusal}
use Rattle.casebook_observe.specs.declared.observe_error.ObserveError.TheVariants as errors
use Rattle.casebook_recorder_cli.specs.Spools.{AllSpools, empty}
use Rattle.casebook_recorder_cli.specs.declared.fault.RecorderFault.{RecorderFault}
use Rattle.casebook_recorder_cli.specs.declared.fault.RecorderFault.TheVariants as faults
use Rattle.casebook_recorder_cli.specs.declared.spools.TheConstants.{SENT_LIMIT}

-- a new spool holds the first look at the folders that it watches, and maybe a listing of it
abbrev pub IsStartedAs : SpoolFiles → Option SpoolFiles → Type 0
IsStartedAs files now = (now ≡ Some files) ⊎ IsListed (last_look files) files now

abbrev pub IsStarted : AllSpools → List PathValue → Option SpoolFiles → Type 0
IsStarted all folders now = IsStartedAs (started (all.found folders) empty) now

-- bytes are a record of a user
abbrev pub IsOfUser : ℕ → Result Record RecordError → Type 0
IsOfUser user (Ok r) = r.user ≡ user
IsOfUser user (Err error) = ⊥

-- bytes are a record of the user who sent them, if that is known
abbrev pub IsFrom : Option ℕ → List ℕ → Type 0
IsFrom None sent = Unit {0}
IsFrom (Some user) sent = IsOfUser user (record_of sent)

-- bytes are a record of another user
abbrev pub IsOfOther : ℕ → Result Record RecordError → Type 0
IsOfOther user (Ok r) = r.user ≢ user
IsOfOther user (Err error) = ⊥

abbrev pub IsFromOther : Option ℕ → List ℕ → Type 0
IsFromOther None sent = ⊥
IsFromOther (Some user) sent = IsOfOther user (record_of sent)

-- bytes aren't taken for this reason, whatever a spool holds
abbrev pub IsNotFrom : Option ℕ → List ℕ → RecorderFault → Type 0
IsNotFrom sender sent faults.NoMem = Unit {0}
IsNotFrom sender sent faults.TooLong = SENT_LIMIT < length sent
IsNotFrom sender sent faults.Forged = IsFromOther sender sent
IsNotFrom sender sent (faults.Record error) = record_of sent ≡ Err error
IsNotFrom sender sent other = ⊥

-- The spool with a name holds what differs since its last look, and then the record that was sent,
-- which isn't too long and is of its sender.
pub record TakesRecord (all : AllSpools) (name : List ℕ) (now : Option SpoolFiles) : Type 0 where
  pub fits : length all.sent ≤ SENT_LIMIT
  pub is_record : IsOk (record_of all.sent)
  pub is_from : IsFrom all.sender all.sent
  pub is_taken : IsTaken (last_look (all.held name)) (all.found (all.watched name)) (fields_of all.sent) (all.held name) now

-- what was sent or the spool with a name is wrong in this way
abbrev pub IsNotTaken : AllSpools → List ℕ → RecorderFault → Type 0
IsNotTaken all name faults.TooLong = SENT_LIMIT < length all.sent
IsNotTaken all name faults.Forged = IsFromOther all.sender all.sent
IsNotTaken all name (faults.Record error) = record_of all.sent ≡ Err error
IsNotTaken all name faults.First = IsRefusal (last_look (all.held name)) all.sent errors.First
IsNotTaken all name (faults.Lines at row) = IsRefusal (last_look (all.held name)) all.sent (errors.Lines at row)
IsNotTaken all name other = Unit {0}
