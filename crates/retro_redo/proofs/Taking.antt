-- New runs of met lines alone.
use Rattle.std.proofs.Common.{◌≡◌, ℕ, zero, suc, List, [], ◌∷◌, ◌++◌, Option, Some, replicate, length, refl, sym}
use Rattle.std.proofs.Common.{subst}
use Rattle.std.specs.List.{slice_get}
use Rattle.retro_tree.specs.Notes.{after}
use Rattle.retro_tree.specs.declared.state.State.{State}
use Rattle.retro_keep.specs.declared.edit.Edit.{Edit}
use Rattle.retro_redo.specs.Progress.{AreTakenIfMet, AreTakenNow, IsTakenIfMet, ProgressValue, chosen, edit_in}
use Rattle.retro_redo.specs.Progress.{recorded_after, repaired_after}
use Rattle.retro_redo.specs.Settling.{IsOneMore}
use Rattle.retro_redo.specs.Skipping.{IsSkip, with_kept}
use Rattle.retro_redo.specs.declared.step.Step.{Step}
use Rattle.retro_redo.specs.declared.step.Step.TheVariants.{Keep}
use Rattle.retro_redo.proofs.Positions.{Line}

pub none_taken : (edit : ℕ → Option Edit) (lines : List Line) (s t : State) → AreTakenIfMet edit lines [] s t
none_taken edit [] s t = tt
none_taken edit (l ∷ lines) s t = tt

-- one more line, which is met if it gets a new run
taken_more : (edit : ℕ → Option Edit) (lines : List Line) (steps : List Step) (step : Step) (s t : State)
    → ((l : Line) → slice_get lines (length steps) ≡ Some l
    → IsTakenIfMet edit (recorded_after lines steps s) (repaired_after lines steps t) l step)
    → AreTakenIfMet edit lines steps s t → AreTakenIfMet edit lines (steps ++ step ∷ []) s t
taken_more edit [] steps step s t met h = tt
taken_more edit (k ∷ lines) [] step s t met h =
    (met k refl, none_taken edit lines (after k.1.notes s) (after (chosen step k.1) t))
taken_more edit (k ∷ lines) (d ∷ steps) step s t met h =
    (h.0, taken_more edit lines steps step (after k.1.notes s) (after (chosen d k.1) t) met h.1)

-- more lines, all of them kept
taken_kept : (edit : ℕ → Option Edit) (lines : List Line) (steps : List Step) (n : ℕ) (s t : State)
    → AreTakenIfMet edit lines steps s t → AreTakenIfMet edit lines (steps ++ replicate n Keep) s t
taken_kept edit [] steps n s t h = tt
taken_kept edit (k ∷ lines) [] zero s t h = tt
taken_kept edit (k ∷ lines) [] (suc n) s t h =
    let s_next = after k.1.notes s in
    let t_next = after k.1.notes t in
    (tt, taken_kept edit lines [] n s_next t_next (none_taken edit lines s_next t_next))
taken_kept edit (k ∷ lines) (d ∷ steps) n s t h =
    (h.0, taken_kept edit lines steps n (after k.1.notes s) (after (chosen d k.1) t) h.1)

-- before the first line
pub taken_first : (p : ProgressValue) → p.choices ≡ [] → AreTakenNow p
taken_first p none =
    subst (λ (steps : List Step). AreTakenIfMet (edit_in p) p.recording.lines steps p.recording.first p.recording.first)
    (sym none) (none_taken (edit_in p) p.recording.lines p.recording.first p.recording.first)

-- after a step
pub taken_next : (p q : ProgressValue) → IsOneMore p q → AreTakenNow p → AreTakenNow q
taken_next p q one h =
    subst AreTakenNow (sym one.1)
    (taken_more (edit_in p) p.recording.lines p.choices one.0 p.recording.first p.recording.first one.2 h)

-- after lines that are skipped
pub taken_skipped : (p q : ProgressValue) → IsSkip p q → AreTakenNow p → AreTakenNow q
taken_skipped p q skip h =
    let same : q ≡ with_kept p skip.count =
    λ i. record { recording = skip.recording i; edits = skip.edits i; choices = skip.choices i } in
    subst AreTakenNow (sym same)
    (taken_kept (edit_in p) p.recording.lines p.choices skip.count p.recording.first p.recording.first h)
