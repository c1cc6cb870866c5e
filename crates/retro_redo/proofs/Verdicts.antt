-- The verdicts of a repair: by choices for the lines, and if all lines are run again.
use Rattle.std.proofs.Common.{◌≡◌, ℕ, List, [], ◌∷◌, Option, ap, ap₂, arith, length, map, refl}
use Rattle.retro_tree.specs.Notes.{after}
use Rattle.retro_tree.specs.declared.state.State.{State}
use Rattle.retro_keep.specs.declared.edit.Edit.{Edit}
use Rattle.retro_redo.specs.Moments.{text_now}
use Rattle.retro_redo.specs.Progress.{AreLinesBy, by_choices, chosen, settled, verdict_of}
use Rattle.retro_redo.specs.Repair.{line_again, verdict_by}
use Rattle.retro_redo.specs.declared.step.Step.{Step}
use Rattle.retro_redo.specs.declared.verdict.SettledLine.{SettledLine}
use Rattle.retro_redo.specs.declared.verdict.Verdict.{Verdict}
use Rattle.retro_redo.proofs.Positions.{Line}

-- a line's number, with the verdict on it
abbrev pub pair_in : SettledLine → ℕ × Verdict
pair_in l = (l.number, l.verdict)

-- ---- by choices

abbrev pub verdict_chosen : Line → Step → List (ℕ × Verdict)
verdict_chosen l step = (l.0, verdict_of step) ∷ []

abbrev pub verdicts_chosen : List Line → List Step → List (ℕ × Verdict)
verdicts_chosen = by_choices verdict_chosen

pub chosen_verdicts : (edit : ℕ → Option Edit) (lines : List Line) (steps : List Step) (left : List SettledLine)
    (s t : State) → AreLinesBy edit (settled lines steps s t) steps left
    → map pair_in left ≡ verdicts_chosen lines steps
chosen_verdicts edit [] [] left s t by = ap (map pair_in) by
chosen_verdicts edit [] (step ∷ steps) left s t by = absurd by
chosen_verdicts edit (l ∷ lines) [] left s t by = ap (map pair_in) by
chosen_verdicts edit (l ∷ lines) (step ∷ steps) [] s t by = absurd by
chosen_verdicts edit (l ∷ lines) (step ∷ steps) (k ∷ left) s t by =
    ap₂ (λ p ps. p ∷ ps) (λ i. (by.0.0 i, by.0.1 i))
    (chosen_verdicts edit lines steps left (after l.1.notes s) (after (chosen step l.1) t) by.1)

-- ---- if all lines are run again

abbrev pub verdict_again : (ℕ → Option Edit) → Line → ℕ × Verdict
verdict_again edit l = (l.0, verdict_by (text_now edit l))

pub again_verdicts : (edit : ℕ → Option Edit) (lines : List Line)
    → map pair_in (map (line_again edit) lines) ≡ map (verdict_again edit) lines
again_verdicts edit [] = refl
again_verdicts edit (l ∷ lines) = ap (λ ps. verdict_again edit l ∷ ps) (again_verdicts edit lines)
