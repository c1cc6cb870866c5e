-- Queries that have another answer in the repaired state.
use Rattle.std.specs.Prelude.{ℕ, List, [], ◌∷◌, Option, Some, None, drop, take}
use Rattle.retro_tree.specs.Ask.{answer}
use Rattle.retro_tree.specs.Notes.{after}
use Rattle.retro_tree.specs.declared.answer.Answer.{Answer}
use Rattle.retro_tree.specs.declared.ask.Ask.{Ask}
use Rattle.retro_tree.specs.declared.note.Note.{Note}
use Rattle.retro_tree.specs.declared.note.Note.TheVariants.{Asked, Made}
use Rattle.retro_tree.specs.declared.state.State.{State}
use Rattle.retro_keep.specs.Recorded.{recorded_before}
use Rattle.retro_keep.specs.Recording.{RecordingValue}
use Rattle.retro_redo.specs.declared.repair.Repair.{Repair}
use Rattle.casebook_view.specs.Reasons.{failing_by, notes_at}
use Rattle.casebook_view.specs.declared.other_answer.OtherAnswer.{OtherAnswer}
use Rattle.casebook_view.specs.declared.reason.Reason.{Reason}

-- a query with its noted answer and its answer in the repaired state
pub record AnswersValue : Type 0 where
  pub ask : Ask
  pub recorded : Answer
  pub repaired : Answer

abbrev pub answers_value : OtherAnswer → AnswersValue
answers_value found = record {
  ask = found.ask.now;
  recorded = found.recorded.now;
  repaired = found.repaired;
}

-- a query with its noted answer and its answer in a state
abbrev pub answers_to : Ask → Answer → State → AnswersValue
answers_to q a s = record { ask = q; recorded = a; repaired = answer q s }

-- the first of some notes with its answer in a state, or None if there is none or it is a change
abbrev pub first_answers : List Note → State → Option AnswersValue
first_answers [] s = None
first_answers (Asked q a ∷ notes) s = Some (answers_to q a s)
first_answers (Made c ∷ notes) s = None

-- the note at an index with its answer in the state after the changes of the notes before it
abbrev pub answers_in : ℕ → List Note → State → Option AnswersValue
answers_in i notes s = first_answers (drop i notes) (after (take i notes) s)

abbrev pub answers_at : Option ℕ → List Note → State → Option AnswersValue
answers_at None notes s = None
answers_at (Some i) notes s = answers_in i notes s

-- the query of the line with a number that fails by a reason, with its noted answer and its answer in the repaired state
-- before the line, after the changes that the line made before the query
abbrev pub answers_of : RecordingValue → Repair → ℕ → Reason → Option AnswersValue
answers_of r repair n reason =
    answers_at (failing_by reason.why) (notes_at n r) (recorded_before n repair.recording)
