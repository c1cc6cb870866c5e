-- What a summary names: lines that leaked, and lines to tell about.
use Rattle.std.specs.Prelude.{ℕ, List, Option, Some, None, length, map}
use Rattle.retro_tree.specs.declared.ask.Ask.{Ask}
use Rattle.retro_tree.specs.declared.note.Note.{Note}
use Rattle.retro_keep.specs.Recording.{RecordingValue, noted_at}
use Rattle.retro_redo.specs.Moments.{CompensationValue}
use Rattle.casebook_view.specs.CaseLines.{reason_at}
use Rattle.casebook_view.specs.Fates.{session_in}
use Rattle.casebook_view.specs.Reasons.{notes_at, query_at}
use Rattle.casebook_summary.specs.Subjects.{subject_of}
use Rattle.casebook_summary.specs.declared.leak.Leak.{Leak}
use Rattle.casebook_summary.specs.declared.notice.Notice.{Notice}
use Rattle.casebook_view.specs.declared.case_line.CaseLine.{CaseLine}
use Rattle.casebook_view.specs.declared.reason.Reason.{Reason}
use Rattle.casebook_summary.specs.declared.subject.Subject.{Subject}
use Rattle.casebook_summary.specs.declared.subject.Subject.TheVariants.{Text, Again}
use Rattle.casebook_view.specs.declared.why.Why.{Why}
use Rattle.casebook_view.specs.declared.why.Why.TheVariants.{Replaced, Query, RunAgain}

-- what a compensation of a cancelled line says of it
abbrev pub leak_for : RecordingValue → CompensationValue → Leak
leak_for r c = record {
  number = c.number;
  session = session_in (noted_at c.number r.lines);
  bytes = length c.before;
}

-- ---- lines to tell about

abbrev pub line_told : Notice → ℕ
line_told notice = notice.number

-- what a query is about, if there is one; else that the line is run again with all others
abbrev pub subject_asked : Option Ask → Subject
subject_asked None = Again
subject_asked (Some q) = subject_of q

-- What a line with these notes is told about, by why it is run again: what its failing query is
-- about, its new text, or that it is run again with all others.
abbrev pub subject_why : List Note → Why → Subject
subject_why notes Replaced = Text
subject_why notes (Query i) = subject_asked (query_at i notes)
subject_why notes RunAgain = Again

abbrev pub subject_by : List Note → Option Reason → Subject
subject_by notes None = Again
subject_by notes (Some reason) = subject_why notes reason.why

abbrev pub line_subject : RecordingValue → List CaseLine → ℕ → Subject
line_subject r lines n = subject_by (notes_at n r) (reason_at n lines)

-- what a line with a number is told about
abbrev pub notice_at : RecordingValue → List CaseLine → ℕ → Notice
notice_at r lines n = record {
  number = n;
  session = session_in (noted_at n r.lines);
  subject = line_subject r lines n;
}

-- what a compensation of a line that isn't cancelled says of it
abbrev pub notice_for : RecordingValue → List CaseLine → CompensationValue → Notice
notice_for r lines c = notice_at r lines c.number

-- what the lines with these numbers are told about
abbrev pub notices_at : RecordingValue → List CaseLine → List ℕ → List Notice
notices_at r lines numbers = map (notice_at r lines) numbers
