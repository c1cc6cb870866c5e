-- Why lines are run again.
use Rattle.std.specs.Prelude.{◌≡◌, ℕ, zero, suc, ◌<◌, Bool, true, false, List, [], ◌∷◌, drop, length}
use Rattle.std.specs.Prelude.{◌==◌, Option, Some, None, MatchOption}
use Rattle.std.specs.List.{list_any}
use Rattle.retro_tree.specs.Notes.{Holds}
use Rattle.retro_tree.specs.declared.ask.Ask.{Ask}
use Rattle.retro_tree.specs.declared.note.Note.{Note}
use Rattle.retro_tree.specs.declared.note.Note.TheVariants.{Asked, Made}
use Rattle.retro_tree.specs.declared.state.State.{State}
use Rattle.retro_keep.specs.Recorded.{recorded_before}
use Rattle.retro_keep.specs.Recording.{RecordingValue, noted_at}
use Rattle.retro_keep.specs.declared.edit.Edit.{Edit}
use Rattle.retro_keep.specs.declared.edit.Edit.TheVariants.{Cancel, Replace}
use Rattle.retro_redo.specs.declared.repair.Repair.{Repair}
use Rattle.casebook_cause.specs.Cause.{IsAlike, IsCause, notes_of}
use Rattle.casebook_cause.specs.FailingNote.{IsFirstFailing}
use Rattle.casebook_view.specs.CaseLines.{reason_at}
use Rattle.casebook_view.specs.declared.case_line.CaseLine.{CaseLine}
use Rattle.casebook_view.specs.declared.reason.Reason.{Reason}
use Rattle.casebook_view.specs.declared.why.Why.{Why}
use Rattle.casebook_view.specs.declared.why.Why.TheVariants.{Replaced, Query, RunAgain}

-- the query of the first of some notes, or None if there is none or it is a change
abbrev pub first_query : List Note → Option Ask
first_query [] = None
first_query (Asked q a ∷ notes) = Some q
first_query (Made c ∷ notes) = None

-- the query of the note at an index, or None if there is no such query
abbrev pub query_at : ℕ → List Note → Option Ask
query_at i notes = first_query (drop i notes)

-- the notes of the line with a number as recorded
abbrev pub notes_at : ℕ → RecordingValue → List Note
notes_at n r = notes_of (noted_at n r.lines)

-- the cause of what the query of a line with a number answers, or None if all lines before it
-- change the cells of the query alike
abbrev pub IsCauseOf : RecordingValue → Repair → ℕ → Option Ask → Option ℕ → Type 0
IsCauseOf r repair n None cause = cause ≡ None
IsCauseOf r repair n (Some q) cause =
    MatchOption cause ((m : ℕ) → m < n → IsAlike q r repair.recording m) (IsCause q n r repair.recording)

-- the query of the failing note, or None if no note fails
abbrev pub failing_query : Option ℕ → List Note → Option Ask
failing_query None notes = None
failing_query (Some i) notes = query_at i notes

-- the index of the first note that doesn't hold in a state, or None if all notes hold
abbrev pub IsFailing : Option ℕ → List Note → State → Type 0
IsFailing failing notes s = MatchOption failing (Holds notes s) (λ i. IsFirstFailing i notes s)

-- ---- edits

-- whether an edit replaces the text of the line with a number
abbrev pub replaces : ℕ → Edit → Bool
replaces n (Cancel m) = false
replaces n (Replace m text) = m == n

-- whether one of some edits replaces the text of the line with a number
abbrev pub has_new_text : List Edit → ℕ → Bool
has_new_text edits n = list_any (replaces n) edits

-- ---- reasons

-- the index of the note that fails, or None if no query is the reason
abbrev pub failing_by : Why → Option ℕ
failing_by Replaced = None
failing_by (Query i) = Some i
failing_by RunAgain = None

-- Why a line with these notes is run again, by the state before it: an edit replaces its text; or
-- else a query fails; or else all notes hold, and it is run again with all others.
abbrev pub IsWhy : Bool → List Note → State → Why → Type 0
IsWhy true notes s why = why ≡ Replaced
IsWhy false notes s Replaced = ⊥
IsWhy false notes s (Query i) = IsFirstFailing i notes s
IsWhy false notes s RunAgain = Holds notes s

-- where a chain ends that begins at a line and goes on at a cause: where that of the cause ends, or at
-- the cause if that isn't run again
abbrev pub origin_after : Option Reason → ℕ → ℕ
origin_after None m = m
origin_after (Some reason) m = reason.origin

abbrev pub origin_by : List CaseLine → ℕ → Option ℕ → ℕ
origin_by lines n None = n
origin_by lines n (Some m) = origin_after (reason_at m lines) m

-- Why the line with a number is run again after edits, by the lines before it: an edit replaces its
-- text; or the first of its recorded notes doesn't hold in the repaired state before it; or all
-- lines are run again. The cause is that of the failing note's answer, and there is none if no note
-- is the reason. The origin is the end of the chain of causes.
pub record IsReason (edits : List Edit) (r : RecordingValue) (repair : Repair) (earlier : List CaseLine) (n : ℕ)
    (reason : Reason) : Type 0 where
  pub why : IsWhy (has_new_text edits n) (notes_at n r) (recorded_before n repair.recording) reason.why
  pub cause : IsCauseOf r repair n (failing_query (failing_by reason.why) (notes_at n r)) reason.cause
  pub origin : reason.origin ≡ origin_by earlier n reason.cause

-- ---- chains

-- the cause of a line that is run again
abbrev pub cause_in : Option Reason → Option ℕ
cause_in None = None
cause_in (Some reason) = reason.cause

abbrev pub chain_by : Option ℕ → (ℕ → List ℕ) → List ℕ
chain_by None go_on = []
chain_by (Some m) go_on = m ∷ go_on m

-- the causes of a line: its cause, the cause of that, and so on, up to so many
abbrev pub chain_from : ℕ → List CaseLine → ℕ → List ℕ
chain_from zero lines n = []
chain_from (suc k) lines n = chain_by (cause_in (reason_at n lines)) (chain_from k lines)

-- all of them: there are no more than lines
abbrev pub chain_of : List CaseLine → ℕ → List ℕ
chain_of lines n = chain_from (length lines) lines n
