-- One more line settled: the states, the choices and the moments.
use Rattle.std.proofs.Common.{◌≡◌, ◌∙◌, ℕ, List, [], ◌∷◌, ◌++◌, length, Option, Some, None}
use Rattle.std.proofs.Common.{suc, refl, ap, arith, subst, sym}
use Rattle.std.specs.List.{slice_get}
use Rattle.retro_tree.specs.Notes.{after}
use Rattle.retro_tree.specs.declared.state.State.{State}
use Rattle.retro_keep.specs.Recording.{last_state}
use Rattle.retro_keep.specs.declared.edit.Edit.{Edit}
use Rattle.retro_keep.specs.declared.noted.Noted.{Noted}
use Rattle.retro_redo.specs.Moments.{Moment}
use Rattle.retro_redo.specs.Progress.{AreLinesBy, IsLineBy, IsRunTaken, MayStep, Settles, chosen, recorded_after}
use Rattle.retro_redo.specs.Progress.{repaired_after, settled}
use Rattle.retro_redo.specs.declared.step.Step.{Step}
use Rattle.retro_redo.specs.declared.verdict.SettledLine.{SettledLine}

abbrev pub Line : Type 0
Line = ℕ × Noted

pub not_none : {A : Type 0} (x : A) → None ≡ Some x → ⊥
not_none x e = cc

-- ---- no line settled
pub recorded_none : (lines : List Line) (s : State) → recorded_after lines [] s ≡ s
recorded_none [] s = refl
recorded_none (l ∷ lines) s = refl

pub repaired_none : (lines : List Line) (t : State) → repaired_after lines [] t ≡ t
repaired_none [] t = refl
repaired_none (l ∷ lines) t = refl

pub settled_none : (lines : List Line) (s t : State) → settled lines [] s t ≡ []
settled_none [] s t = refl
settled_none (l ∷ lines) s t = refl

pub settles_none : (edit : ℕ → Option Edit) (lines : List Line) (s t : State) → Settles edit lines [] s t
settles_none edit [] s t = tt
settles_none edit (l ∷ lines) s t = tt

-- ---- one line more
pub recorded_more : (lines : List Line) (steps : List Step) (l : Line) (step : Step) (s : State)
    → slice_get lines (length steps) ≡ Some l
    → recorded_after lines (steps ++ step ∷ []) s ≡ after l.1.notes (recorded_after lines steps s)
recorded_more [] steps l step s next = absurd (not_none l next)
recorded_more (k ∷ lines) [] l step s next =
    let e : k ≡ l = cc in
    recorded_none lines (after k.1.notes s) ∙ ap (λ (x : Line). after x.1.notes s) e
recorded_more (k ∷ lines) (d ∷ steps) l step s next = recorded_more lines steps l step (after k.1.notes s) next

pub repaired_more : (lines : List Line) (steps : List Step) (l : Line) (step : Step) (t : State)
    → slice_get lines (length steps) ≡ Some l
    → repaired_after lines (steps ++ step ∷ []) t ≡ after (chosen step l.1) (repaired_after lines steps t)
repaired_more [] steps l step t next = absurd (not_none l next)
repaired_more (k ∷ lines) [] l step t next =
    let e : k ≡ l = cc in
    repaired_none lines (after (chosen step k.1) t) ∙ ap (λ (x : Line). after (chosen step x.1) t) e
repaired_more (k ∷ lines) (d ∷ steps) l step t next = repaired_more lines steps l step (after (chosen d k.1) t) next

abbrev pub moment : Line → State → State → Moment
moment l s t = record { number = l.0; noted = l.1; recorded = s; repaired = t }

pub settled_more : (lines : List Line) (steps : List Step) (l : Line) (step : Step) (s t : State)
    → slice_get lines (length steps) ≡ Some l
    → settled lines (steps ++ step ∷ []) s t
    ≡ settled lines steps s t ++ moment l (recorded_after lines steps s) (repaired_after lines steps t) ∷ []
settled_more [] steps l step s t next = absurd (not_none l next)
settled_more (k ∷ lines) [] l step s t next =
    let e : k ≡ l = cc in
    ap (λ ms. moment k s t ∷ ms) (settled_none lines (after k.1.notes s) (after (chosen step k.1) t))
    ∙ ap (λ (x : Line). moment x s t ∷ []) e
settled_more (k ∷ lines) (d ∷ steps) l step s t next =
    ap (λ ms. moment k s t ∷ ms) (settled_more lines steps l step (after k.1.notes s) (after (chosen d k.1) t) next)

pub settles_more : (edit : ℕ → Option Edit) (lines : List Line) (steps : List Step) (l : Line) (step : Step) (s t : State)
    → slice_get lines (length steps) ≡ Some l → Settles edit lines steps s t
    → MayStep edit (recorded_after lines steps s) (repaired_after lines steps t) l step → IsRunTaken step
    → Settles edit lines (steps ++ step ∷ []) s t
settles_more edit [] steps l step s t next h may run = absurd (not_none l next)
settles_more edit (k ∷ lines) [] l step s t next h may run =
    let e : l ≡ k = cc in (
      subst (λ (x : Line). MayStep edit s t x step) e may,
      run,
      settles_none edit lines (after k.1.notes s) (after (chosen step k.1) t),
    )
settles_more edit (k ∷ lines) (d ∷ steps) l step s t next h may run =
    (h.0, h.1, settles_more edit lines steps l step (after k.1.notes s) (after (chosen d k.1) t) next h.2 may run)

-- ---- what is left of lines
pub lines_more : (edit : ℕ → Option Edit) (ms : List Moment) (steps : List Step) (lines : List SettledLine) (m : Moment)
    (step : Step) (l : SettledLine) → AreLinesBy edit ms steps lines → IsLineBy edit m step l
    → AreLinesBy edit (ms ++ m ∷ []) (steps ++ step ∷ []) (lines ++ l ∷ [])
lines_more edit [] [] lines m step l h is =
    subst (λ ls. AreLinesBy edit (m ∷ []) (step ∷ []) (ls ++ l ∷ [])) (sym h) (is, refl)
lines_more edit [] (x ∷ steps) lines m step l h is = absurd h
lines_more edit (k ∷ ms) [] lines m step l h is = absurd h
lines_more edit (k ∷ ms) (x ∷ steps) [] m step l h is = absurd h
lines_more edit (k ∷ ms) (x ∷ steps) (y ∷ lines) m step l h is = (h.0, lines_more edit ms steps lines m step l h.1 is)

-- ---- all lines settled
pub all_settled : (edit : ℕ → Option Edit) (lines : List Line) (steps : List Step) (s t : State)
    → Settles edit lines steps s t → slice_get lines (length steps) ≡ None → length steps ≡ length lines
all_settled edit [] [] s t h next = refl
all_settled edit [] (step ∷ steps) s t h next = absurd h
all_settled edit (l ∷ lines) [] s t h next = cc
all_settled edit (l ∷ lines) (step ∷ steps) s t h next =
    ap suc (all_settled edit lines steps (after l.1.notes s) (after (chosen step l.1) t) h.2 next)

pub recorded_all : (lines : List Line) (steps : List Step) (s : State) → length steps ≡ length lines
    → recorded_after lines steps s ≡ last_state lines s
recorded_all [] steps s all = refl
recorded_all (l ∷ lines) [] s all = absurd (omega (arith, all))
recorded_all (l ∷ lines) (step ∷ steps) s all = recorded_all lines steps (after l.1.notes s) (omega (arith, all))
