-- The lines of a repair as they are chosen.
use Rattle.std.proofs.Common.{◌≡◌, ◌⊎◌, inl, inr, ℕ, List, [], ◌∷◌, IsTrue, length, nat_le, refl}
use Rattle.retro_tree.specs.Notes.{after}
use Rattle.retro_tree.specs.declared.state.State.{State}
use Rattle.retro_tree.proofs.Small.{and_true, both_true, first_true}
use Rattle.retro_keep.specs.Recording.{last_state, none_below}
use Rattle.retro_redo.specs.Progress.{lines_chosen, repaired_after}
use Rattle.retro_redo.specs.declared.step.Step.{Step}
use Rattle.retro_redo.specs.declared.step.Step.TheVariants.{Cancel, Keep, Take}
use Rattle.retro_redo.proofs.Positions.{Line}

-- the state after the lines as chosen
pub last_chosen : (lines : List Line) (steps : List Step) (t : State)
    → last_state (lines_chosen lines steps) t ≡ repaired_after lines steps t
last_chosen [] steps t = refl
last_chosen (l ∷ lines) [] t = refl
last_chosen (l ∷ lines) (Cancel ∷ steps) t = last_chosen lines steps t
last_chosen (l ∷ lines) (Keep ∷ steps) t = last_chosen lines steps (after l.1.notes t)
last_chosen (l ∷ lines) (Take run ∷ steps) t = last_chosen lines steps (after run.notes t)

-- if no line is below a number, no line as chosen is
pub chosen_from : (from : ℕ) (lines : List Line) (steps : List Step) → IsTrue (none_below from lines)
    → IsTrue (none_below from (lines_chosen lines steps))
chosen_from from [] steps h = refl
chosen_from from (l ∷ lines) [] h = refl
chosen_from from (l ∷ lines) (Cancel ∷ steps) h = chosen_from from lines steps (both_true (nat_le from l.0) _ h)
chosen_from from (l ∷ lines) (Keep ∷ steps) h =
    and_true _ _ (first_true (nat_le from l.0) _ h) (chosen_from from lines steps (both_true (nat_le from l.0) _ h))
chosen_from from (l ∷ lines) (Take run ∷ steps) h =
    and_true _ _ (first_true (nat_le from l.0) _ h) (chosen_from from lines steps (both_true (nat_le from l.0) _ h))

-- if no line or no choice is left, nothing is chosen of them
pub nothing_left : (lines : List Line) (steps : List Step) → ((length lines ≡ 0) ⊎ (length steps ≡ 0))
    → lines_chosen lines steps ≡ []
nothing_left [] steps none = refl
nothing_left (l ∷ lines) [] none = refl
nothing_left (l ∷ lines) (step ∷ steps) (inl none) = cc
nothing_left (l ∷ lines) (step ∷ steps) (inr none) = cc
