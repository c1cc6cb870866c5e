-- The progress of a repair: the choices made so far, and the states that they make.
use Rattle.std.specs.Prelude.{◌≡◌, ℕ, List, [], ◌∷◌, ◌++◌, ◌⊎◌, MatchBool, Option, None, length, option_map}
use Rattle.std.specs.FinMap as map
use Rattle.std.specs.List.{slice_get}
use Rattle.retro_tree.specs.Notes.{after, AgreeOn, Holds}
use Rattle.retro_tree.specs.declared.note.Note.{Note}
use Rattle.retro_tree.specs.declared.state.State.{State}
use Rattle.retro_shell.specs.Runs.{IsRun, RunValue}
use Rattle.retro_keep.specs.Recording.{RecordingValue, noted_of}
use Rattle.retro_keep.specs.declared.edit.Edit.{Edit}
use Rattle.retro_keep.specs.declared.noted.Noted.{Noted}
use Rattle.retro_redo.specs.Editing.{EditMap}
use Rattle.retro_redo.specs.Moments.{CompensationValue, IsMet, IsMetBy, IsStaleBy, Moment, compensation, new_text}
use Rattle.retro_redo.specs.Moments.{text_now}
use Rattle.retro_redo.specs.declared.step.Step.{Step}
use Rattle.retro_redo.specs.declared.step.Step.TheVariants.{Cancel, Keep, Take}
use Rattle.retro_redo.specs.declared.verdict.SettledLine.{SettledLine}
use Rattle.retro_redo.specs.declared.verdict.Verdict.{Verdict}
use Rattle.retro_redo.specs.declared.verdict.Verdict.TheVariants.{Cancelled, Redone, Kept}

-- the recording, its edits, and the choices for the first lines
pub record ProgressValue : Type 0 where
  pub recording : RecordingValue
  pub edits : EditMap
  pub choices : List Step

-- the notes that a line has in the repaired state, by its choice
abbrev pub chosen : Step → Noted → List Note
chosen Cancel noted = []
chosen Keep noted = noted.notes
chosen (Take run) noted = run.notes

-- the settled lines, with the states before them
abbrev pub settled : List (ℕ × Noted) → List Step → State → State → List Moment
settled [] steps s t = []
settled (l ∷ lines) [] s t = []
settled (l ∷ lines) (step ∷ steps) s t =
    record { number = l.0; noted = l.1; recorded = s; repaired = t }
    ∷ settled lines steps (after l.1.notes s) (after (chosen step l.1) t)

-- the recorded state and the repaired state after the settled lines
abbrev pub recorded_after : List (ℕ × Noted) → List Step → State → State
recorded_after [] steps s = s
recorded_after (l ∷ lines) [] s = s
recorded_after (l ∷ lines) (step ∷ steps) s = recorded_after lines steps (after l.1.notes s)

abbrev pub repaired_after : List (ℕ × Noted) → List Step → State → State
repaired_after [] steps t = t
repaired_after (l ∷ lines) [] t = t
repaired_after (l ∷ lines) (step ∷ steps) t = repaired_after lines steps (after (chosen step l.1) t)

abbrev pub recorded_now : ProgressValue → State
recorded_now p = recorded_after p.recording.lines p.choices p.recording.first

abbrev pub repaired_now : ProgressValue → State
repaired_now p = repaired_after p.recording.lines p.choices p.recording.first

-- the settled lines, with the states before them
abbrev pub settled_now : ProgressValue → List Moment
settled_now p = settled p.recording.lines p.choices p.recording.first p.recording.first

-- the edit of the line with a number, or None if nothing edits it
abbrev pub edit_in : ProgressValue → ℕ → Option Edit
edit_in p = map.get p.edits

-- the next line to settle, and its number
abbrev pub next_line : ProgressValue → Option (ℕ × Noted)
next_line p = slice_get p.recording.lines (length p.choices)

abbrev pub next_number : ProgressValue → Option ℕ
next_number p = option_map (λ l. l.0) (next_line p)

-- ---- which choices a line allows

-- a new run of a line: of its new text in its session
abbrev pub IsNewRunOf : (ℕ → Option Edit) → ℕ × Noted → RunValue → Type 0
IsNewRunOf edit l run = (run.sid ≡ l.1.sid) × (run.text ≡ new_text edit l)

-- A line that runs no text is cancelled. A line that nothing edits is kept if its notes agree with
-- both states or hold in the repaired one. A stale line may be given a new run whose notes hold in
-- the repaired state.
abbrev pub MayStep : (ℕ → Option Edit) → State → State → ℕ × Noted → Step → Type 0
MayStep edit s t l Cancel = text_now edit l ≡ None
MayStep edit s t l Keep = (edit l.0 ≡ None) × (AgreeOn l.1.notes s t ⊎ Holds l.1.notes t)
MayStep edit s t l (Take run) =
    IsStaleBy (edit l.0) l.1.notes t × IsNewRunOf edit l run × Holds run.notes t

-- the guarantee of the type of runs for a taken run
abbrev pub IsRunTaken : Step → Type 0
IsRunTaken Cancel = Unit {0}
IsRunTaken Keep = Unit {0}
IsRunTaken (Take run) = IsRun run

-- each choice is one that its line allows
abbrev pub Settles : (ℕ → Option Edit) → List (ℕ × Noted) → List Step → State → State → Type 0
Settles edit lines [] s t = Unit {0}
Settles edit [] (step ∷ steps) s t = ⊥
Settles edit (l ∷ lines) (step ∷ steps) s t =
    MayStep edit s t l step × IsRunTaken step
    × Settles edit lines steps (after l.1.notes s) (after (chosen step l.1) t)

-- a choice gives a line a new run only if the line is met by the two states before it
abbrev pub IsTakenIfMet : (ℕ → Option Edit) → State → State → ℕ × Noted → Step → Type 0
IsTakenIfMet edit s t l Cancel = Unit {0}
IsTakenIfMet edit s t l Keep = Unit {0}
IsTakenIfMet edit s t l (Take run) = IsMetBy (edit l.0) l.1.notes s t

-- Only met lines get new runs. So a line that nothing edits and that isn't met is kept, even if its
-- notes don't hold, as in a forged log.
abbrev pub AreTakenIfMet : (ℕ → Option Edit) → List (ℕ × Noted) → List Step → State → State → Type 0
AreTakenIfMet edit [] steps s t = Unit {0}
AreTakenIfMet edit (l ∷ lines) [] s t = Unit {0}
AreTakenIfMet edit (l ∷ lines) (step ∷ steps) s t =
    IsTakenIfMet edit s t l step × AreTakenIfMet edit lines steps (after l.1.notes s) (after (chosen step l.1) t)

-- the same of the choices so far
abbrev pub AreTakenNow : ProgressValue → Type 0
AreTakenNow p = AreTakenIfMet (edit_in p) p.recording.lines p.choices p.recording.first p.recording.first

-- ---- what the choices give

-- what each settled line with its choice gives, in order
abbrev pub by_choices : {A : Type 0} → (ℕ × Noted → Step → List A) → List (ℕ × Noted) → List Step → List A
by_choices f [] steps = []
by_choices f (l ∷ lines) [] = []
by_choices f (l ∷ lines) (step ∷ steps) = f l step ++ by_choices f lines steps

-- the lines of the repaired recording
abbrev pub line_chosen : ℕ × Noted → Step → List (ℕ × Noted)
line_chosen l Cancel = []
line_chosen l Keep = l ∷ []
line_chosen l (Take run) = (l.0, noted_of run) ∷ []

abbrev pub lines_chosen : List (ℕ × Noted) → List Step → List (ℕ × Noted)
lines_chosen = by_choices line_chosen

-- the lines as chosen, over the same first state, in a recording that begins at the same number
abbrev pub repaired_recording : ProgressValue → RecordingValue
repaired_recording p =
    record {
      first = p.recording.first;
      from = p.recording.from;
      lines = lines_chosen p.recording.lines p.choices;
    }

-- what a line prints by its choice
abbrev pub output_chosen : Noted → Step → List ℕ
output_chosen noted Cancel = []
output_chosen noted Keep = noted.output
output_chosen noted (Take run) = run.output

abbrev pub compensation_chosen : ℕ × Noted → Step → List CompensationValue
compensation_chosen l step = compensation l.0 l.1.output (output_chosen l.1 step)

abbrev pub compensations_chosen : List (ℕ × Noted) → List Step → List CompensationValue
compensations_chosen = by_choices compensation_chosen

abbrev pub verdict_of : Step → Verdict
verdict_of Cancel = Cancelled
verdict_of Keep = Kept
verdict_of (Take run) = Redone

-- what is left of a line in a moment, by its choice: its number, the verdict, and whether it is met
abbrev pub IsLineBy : (ℕ → Option Edit) → Moment → Step → SettledLine → Type 0
IsLineBy edit m step l =
    (l.number ≡ m.number) × (l.verdict ≡ verdict_of step)
    × MatchBool l.is_met (IsMet edit m) (¬ (IsMet edit m))

-- the same of each line that has a choice, in order
abbrev pub AreLinesBy : (ℕ → Option Edit) → List Moment → List Step → List SettledLine → Type 0
AreLinesBy edit [] [] lines = lines ≡ []
AreLinesBy edit (m ∷ ms) (step ∷ steps) (l ∷ lines) = IsLineBy edit m step l × AreLinesBy edit ms steps lines
AreLinesBy edit _ _ _ = ⊥
