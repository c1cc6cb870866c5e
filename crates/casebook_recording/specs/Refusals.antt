-- Why a document has no log, in words.
use Rattle.std.specs.Prelude.{ℕ, List, [], ◌++◌, Option, Some, None, codes, decimal, option_map}
use Rattle.retro_tree.specs.declared.cell.Cell.{Cell}
use Rattle.retro_tree.specs.declared.cell.Cell.TheVariants as cells
use Rattle.casebook_text.specs.SafeLine.{word_bytes}
use Rattle.casebook_words.specs.Words.{path_words}
use Rattle.casebook_explain.specs.declared.tell_fault.LineFault.{LineFault}
use Rattle.casebook_explain.specs.declared.tell_fault.LineFault.TheVariants as lines
use Rattle.casebook_case.specs.declared.case_fault.CaseFault.{CaseFault}
use Rattle.casebook_case.specs.declared.case_fault.CaseFault.TheVariants as cases
use Rattle.casebook_recording.specs.declared.recording_fault.RecordingFault.{RecordingFault}
use Rattle.casebook_recording.specs.declared.recording_fault.RecordingFault.TheVariants as faults
use Rattle.casebook_recording.specs.declared.refusal.CaseRefusal.{CaseRefusal}
use Rattle.casebook_recording.specs.declared.refusal.CaseRefusal.TheVariants as refusals

-- a fault without what a line left, or None if memory ran out
abbrev pub refusal_of : RecordingFault → Option CaseRefusal
refusal_of faults.NoMem = None
refusal_of (faults.Case fault) = Some (refusals.Case fault)
refusal_of (faults.Contradiction at) = Some (refusals.Contradiction at)
refusal_of faults.TooManySessions = Some refusals.TooManySessions
refusal_of faults.LawlessState = Some refusals.LawlessState
refusal_of (faults.Line place fault) = Some (refusals.Line place)
refusal_of faults.TooManyLines = Some refusals.TooManyLines

-- a number between two texts
abbrev pub counted : List ℕ → ℕ → List ℕ → List ℕ
counted front number back = front ++ decimal number ++ back

unfoldable pub case_words : CaseFault → List ℕ
case_words cases.NoMem = codes "out of memory"
case_words cases.Unread = codes "it can't be read"
case_words cases.NotText = codes "it isn't text"
case_words cases.NotJson = codes "not a JSON value"
case_words cases.NotACase = codes "not a case"
case_words (cases.BadContent place) =
    counted (codes "content ") place (codes " isn't hexadecimal digits")
case_words cases.BadFirst = codes "its first look can't be read"
case_words (cases.BadLine row) = counted (codes "row ") row (codes " of its lines is damaged")
case_words (cases.MissingFirst row) =
    counted (codes "row ") row (codes " of its first look: the bytes are missing or were altered")
case_words (cases.MissingLine row) =
    counted (codes "row ") row (codes " of its lines: the bytes are missing or were altered")

-- why there is no log, in a line
unfoldable pub refusal_words : CaseRefusal → List ℕ
refusal_words (refusals.Case fault) = case_words fault
refusal_words (refusals.Contradiction at) =
    counted (codes "after ") at (codes " records one begins or ends a line that is there already")
refusal_words refusals.TooManySessions = codes "it has too many sessions"
refusal_words refusals.LawlessState = codes "its first look isn't a lawful tree"
refusal_words (refusals.Line place) =
    counted (codes "what line ") place (codes " left can't be there")
refusal_words refusals.TooManyLines = codes "it has too many lines"

-- ---- what a line left that can't be there

unfoldable pub var_words : ℕ → List ℕ → List ℕ
var_words session name = codes "the variable " ++ word_bytes name ++ codes " of session " ++ decimal session

unfoldable pub cell_words : Cell → List ℕ
cell_words (cells.At path) = path_words path
cell_words (cells.Cwd session) = codes "the directory of session " ++ decimal session
cell_words (cells.Var session name) = var_words session name
cell_words (cells.Status session) = codes "the status of session " ++ decimal session

-- what it left, if that is why it can't be explained
abbrev pub what_words : LineFault → List ℕ
what_words lines.UnknownSession = []
what_words (lines.Unwritten cell) = codes ": " ++ cell_words cell
what_words (lines.Unexplained cell) = codes ": " ++ cell_words cell

abbrev pub where_words : RecordingFault → List ℕ
where_words (faults.Line place fault) = what_words fault
where_words _ = []

-- Why there is no log, in a line, and of a line that can't be explained also what it left. None if
-- memory ran out.
abbrev pub fault_words : RecordingFault → Option (List ℕ)
fault_words fault = option_map (λ refusal. refusal_words refusal ++ where_words fault) (refusal_of fault)
