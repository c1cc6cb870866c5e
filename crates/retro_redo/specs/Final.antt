-- What the choices for all lines of a recording give.
use Rattle.std.specs.Prelude.{◌≡◌, ℕ, List, [], ◌∷◌, map, Option}
use Rattle.retro_tree.specs.declared.state.State.{State}
use Rattle.retro_keep.specs.Recording.{AllRecorded, output_in, script_line}
use Rattle.retro_keep.specs.Edit.{edited}
use Rattle.retro_keep.specs.Runs.{outcome}
use Rattle.retro_keep.specs.declared.edit.Edit.{Edit}
use Rattle.retro_keep.specs.declared.noted.Noted.{Noted}
use Rattle.retro_redo.specs.Moments.{IsVerdict, Moment, compensations, moments}
use Rattle.retro_redo.specs.Progress.{compensations_chosen, lines_chosen, repaired_after, settled, verdict_of}
use Rattle.retro_redo.specs.declared.step.Step.{Step}

-- the choice for each line is the one of its verdict
abbrev pub AreRight : (ℕ → Option Edit) → List Moment → List Step → Type 0
AreRight edit [] [] = Unit {0}
AreRight edit (m ∷ ms) (step ∷ steps) = IsVerdict edit m (verdict_of step) × AreRight edit ms steps
AreRight edit _ _ = ⊥

-- The choices give what running the edited lines one by one gives: its last state, its outputs, the
-- outputs that differ, the verdicts, and the states on the way. The lines as chosen are a recording
-- of the edited lines.
pub record IsFinal (edit : ℕ → Option Edit) (lines : List (ℕ × Noted)) (steps : List Step) (s t : State)
    : Type 0 where
  pub outcome_is : outcome (edited edit (map script_line lines)) t
      ≡ (repaired_after lines steps t, map output_in (lines_chosen lines steps))
  pub on_the_way : moments edit lines s t ≡ settled lines steps s t
  pub compensated : compensations edit (moments edit lines s t) ≡ compensations_chosen lines steps
  pub verdicts : AreRight edit (moments edit lines s t) steps
  pub lines_are : map script_line (lines_chosen lines steps) ≡ edited edit (map script_line lines)
  pub recorded : AllRecorded (lines_chosen lines steps) t
