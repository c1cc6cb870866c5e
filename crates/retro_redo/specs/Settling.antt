-- How the next line of a repair is settled.
use Rattle.std.specs.Prelude.{◌≡◌, ℕ, ◌∷◌, ◌++◌, [], Option, None, Some, IfSome}
use Rattle.retro_tree.specs.Notes.{Holds}
use Rattle.retro_tree.specs.declared.state.State.{State}
use Rattle.retro_shell.specs.Runs.{RunValue}
use Rattle.retro_keep.specs.Recording.{IsRecordingOf, script_in}
use Rattle.retro_keep.specs.declared.noted.Noted.{Noted}
use Rattle.retro_keep.specs.declared.edit.Edit.{Edit}
use Rattle.retro_redo.specs.Moments.{IsStaleBy, text_now}
use Rattle.retro_redo.specs.Progress.{IsNewRunOf, IsTakenIfMet, ProgressValue, edit_in, next_line, recorded_now}
use Rattle.retro_redo.specs.Progress.{repaired_now}
use Rattle.retro_redo.specs.declared.settlement.Settlement.{Settlement}
use Rattle.retro_redo.specs.declared.settlement.Settlement.TheVariants.{Cancelled, Kept, TakenUp, Redone}
use Rattle.retro_redo.specs.declared.step.Step.{Step}
use Rattle.retro_redo.specs.declared.step.Step.TheVariants.{Cancel, Keep, Take}

-- a step gives the next line a new run only if the line is met
abbrev pub IsForMetLine : ProgressValue → Step → Type 0
IsForMetLine p step =
    (l : ℕ × Noted) → next_line p ≡ Some l → IsTakenIfMet (edit_in p) (recorded_now p) (repaired_now p) l step

-- one more line is settled, by some step, and by a new run only if it is met
abbrev pub IsOneMore : ProgressValue → ProgressValue → Type 0
IsOneMore p q =
    (step : Step) × (q ≡ record p { choices = p.choices ++ step ∷ [] }) × IsForMetLine p step

-- a new run of a line, or none
abbrev pub IsGuessOf : (ℕ → Option Edit) → ℕ × Noted → Option RunValue → Type 0
IsGuessOf edit l guess = IfSome guess (IsNewRunOf edit l)

-- the next line is stale
abbrev pub IsStale : ProgressValue → ℕ × Noted → Type 0
IsStale p l = IsStaleBy (edit_in p l.0) l.1.notes (repaired_now p)

-- a step takes up a guess
abbrev pub IsTakenUp : Option RunValue → Step → Type 0
IsTakenUp None step = ⊥
IsTakenUp (Some run) step = step ≡ Take run

-- a step takes a run, and there is no guess whose notes hold in a state
abbrev pub IsRunAgain : Option RunValue → State → Step → Type 0
IsRunAgain guess t Cancel = ⊥
IsRunAgain guess t Keep = ⊥
IsRunAgain guess t (Take run) = IfSome guess (λ guessed. ¬ (Holds guessed.notes t))

-- How the next line was settled, and by which step: cancelled if it runs no text, and with a new
-- run if it is stale, which is the guess or, if the guess's notes don't hold in the repaired state
-- or there is none, another one. If it was kept, nothing edits it; and if the recording is one of
-- its lines, then its notes hold in the repaired state.
abbrev pub IsSettlement : ProgressValue → ℕ × Noted → Option RunValue → Step → Settlement → Type 0
IsSettlement p l guess step Cancelled = (step ≡ Cancel) × (text_now (edit_in p) l ≡ None)
IsSettlement p l guess step Kept =
    (step ≡ Keep) × (edit_in p l.0 ≡ None)
    × (IsRecordingOf (script_in p.recording) p.recording → Holds l.1.notes (repaired_now p))
IsSettlement p l guess step TakenUp = IsTakenUp guess step × IsStale p l
IsSettlement p l guess step Redone = IsRunAgain guess (repaired_now p) step × IsStale p l

-- one more line is settled, in such a way
abbrev pub IsOneSettled : ProgressValue → Option RunValue → ProgressValue → Settlement → Type 0
IsOneSettled p guess q how =
    (step : Step) × (q ≡ record p { choices = p.choices ++ step ∷ [] }) × IsForMetLine p step
    × ((l : ℕ × Noted) → next_line p ≡ Some l → IsSettlement p l guess step how)
