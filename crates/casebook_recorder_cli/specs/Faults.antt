-- Why there is no spool, why a record isn't taken or why there is no case, in words.
use Rattle.std.specs.Prelude.{ℕ, Bool, true, false, List, ◌++◌, codes, decimal}
use Rattle.casebook_case.specs.declared.case_fault.CaseFault.{CaseFault}
use Rattle.casebook_case.specs.declared.case_fault.CaseFault.TheVariants as cases
use Rattle.casebook_observe.specs.declared.observe_error.ObserveError.{ObserveError}
use Rattle.casebook_observe.specs.declared.observe_error.ObserveError.TheVariants as observing
use Rattle.casebook_observe.specs.declared.watch_error.WatchError.TheVariants as watches
use Rattle.casebook_record.specs.declared.record_error.Field.{Field}
use Rattle.casebook_record.specs.declared.record_error.Field.TheVariants as fields
use Rattle.casebook_record.specs.declared.record_error.RecordError.{RecordError}
use Rattle.casebook_record.specs.declared.record_error.RecordError.TheVariants as records
use Rattle.casebook_recorder_cli.specs.declared.fault.RecorderFault.{RecorderFault}
use Rattle.casebook_recorder_cli.specs.declared.fault.RecorderFault.TheVariants as faults
use Rattle.casebook_recorder_cli.specs.declared.spools.OpenError.{OpenError}
use Rattle.casebook_recorder_cli.specs.declared.spools.OpenError.TheVariants as opens

abbrev pub of_opening : OpenError → RecorderFault
of_opening opens.NoMem = faults.NoMem
of_opening error = faults.Open error

abbrev pub of_record : RecordError → RecorderFault
of_record records.NoMem = faults.NoMem
of_record error = faults.Record error

abbrev pub of_observing : ObserveError → RecorderFault
of_observing observing.NoMem = faults.NoMem
of_observing (observing.Record error) = faults.Record error
of_observing observing.First = faults.First
of_observing (observing.Lines at row) = faults.Lines at row
of_observing (observing.Watched watches.TooSlow) = faults.TooSlow
of_observing (observing.Watched error) = faults.Unseen
of_observing (observing.Spool error) = faults.Unwritten

abbrev pub of_case : CaseFault → RecorderFault
of_case cases.NoMem = faults.NoMem
of_case fault = faults.Case fault

-- whether a document or a name is refused, and not a call of the system
abbrev pub is_refusal : RecorderFault → Bool
is_refusal (faults.Open opens.Exists) = true
is_refusal (faults.Open opens.Damaged) = true
is_refusal faults.TooLong = true
is_refusal faults.Forged = true
is_refusal (faults.Record error) = true
is_refusal faults.First = true
is_refusal (faults.Lines at row) = true
is_refusal (faults.Case cases.NoMem) = false
is_refusal (faults.Case cases.Unread) = false
is_refusal (faults.Case fault) = true
is_refusal other = false

unfoldable pub open_words : OpenError → List ℕ
open_words opens.NoMem = codes "out of memory"
open_words opens.Missing = codes "there is no such spool"
open_words opens.Exists = codes "there is something with this name already"
open_words opens.Busy = codes "somebody else has this spool"
open_words opens.Damaged = codes "its list of folders can't be read"
open_words opens.NoFolder = codes "a folder that it watches isn't there"
open_words opens.Failed = codes "the system refuses to open it"

unfoldable pub field_words : Field → List ℕ
field_words fields.Session = codes "no record: its session isn't one"
field_words fields.Time = codes "no record: its time isn't one"
field_words fields.User = codes "no record: its user isn't a number"
field_words fields.Directory = codes "no record: its directory isn't one"
field_words fields.Parent = codes "no record: its first session isn't one"
field_words fields.Umask = codes "no record: its umask isn't one"
field_words fields.Number = codes "no record: its line has no number"
field_words fields.Statuses = codes "no record: its statuses aren't numbers"
field_words fields.Line = codes "no record: its line is neither shown nor hidden"
field_words fields.Variables = codes "no record: its variables are neither new nor the same"
field_words fields.Shell = codes "no record: its functions are neither new nor the same"
field_words fields.Status = codes "no record: its status isn't one"

unfoldable pub record_words : RecordError → List ℕ
record_words records.NoMem = codes "out of memory"
record_words records.CutOff = codes "no record: it is cut off"
record_words records.TooMany = codes "no record: it has too many fields"
record_words records.UnknownKind = codes "no record: it isn't start, begin, end or exit"
record_words (records.Wrong field) = field_words field

-- a row of the lines, counted from a byte on
unfoldable pub lines_words : ℕ → ℕ → List ℕ
lines_words at row =
    codes "its lines are damaged: row " ++ decimal row ++ codes " after byte " ++ decimal at

-- words, a number and words
abbrev pub around : List ℕ → ℕ → List ℕ → List ℕ
around before number after = before ++ decimal number ++ after

-- why there is no case
unfoldable pub case_line : CaseFault → List ℕ
case_line cases.NoMem = codes "out of memory"
case_line cases.Unread = codes "it can't be read"
case_line cases.NotText = codes "a file of it isn't text"
case_line cases.NotJson = codes "not a JSON text"
case_line cases.NotACase = codes "not a case: \"case\" isn't 1, or keys are wrong"
case_line (cases.BadContent place) = around (codes "content ") place (codes ": not hexadecimal digits")
case_line cases.BadFirst = codes "its first look can't be read"
case_line (cases.BadLine row) = around (codes "row ") row (codes " of its lines: neither a note nor a record")
case_line (cases.MissingFirst row) =
    around (codes "row ") row (codes " of its first look: the bytes are missing or were altered")
case_line (cases.MissingLine row) =
    around (codes "row ") row (codes " of its lines: the bytes are missing or were altered")

-- what is wrong, in a line
unfoldable pub fault_line : RecorderFault → List ℕ
fault_line faults.NoMem = codes "out of memory"
fault_line (faults.Open error) = open_words error
fault_line faults.TooLong = codes "no record: it is too long"
fault_line faults.Forged = codes "no record: it is of another user"
fault_line (faults.Record error) = record_words error
fault_line faults.First = codes "its first look can't be read"
fault_line (faults.Lines at row) = lines_words at row
fault_line faults.Unseen = codes "a folder that it watches can't be looked at"
fault_line faults.TooSlow = codes "its folders hold too much to be looked at in time"
fault_line faults.Unwritten = codes "it can't be read or written"
fault_line (faults.Case fault) = case_line fault
