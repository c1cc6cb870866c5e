-- A line that a repair keeps has the same notes in the repaired recording. So it is no cause.
use Rattle.std.proofs.Common.{◌≡◌, ◌≢◌, ◌∙◌, ◌==◌, ℕ, Bool, true, false, List, [], ◌∷◌, ◌++◌, map, Option, Some, None}
use Rattle.std.proofs.Common.{refl, sym, ap}
use Rattle.std.specs.Bool.{if◌then◌else◌}
use Rattle.retro_tree.specs.declared.ask.Ask.{Ask}
use Rattle.retro_tree.proofs.Small.{none_some}
use Rattle.retro_keep.specs.Recording.{IsWellFormed, RecordingValue, noted_at, noted_of}
use Rattle.retro_keep.specs.declared.edit.Edit.{Edit}
use Rattle.retro_keep.specs.declared.noted.Noted.{Noted}
use Rattle.retro_redo.specs.Moments.{text_now}
use Rattle.retro_redo.specs.Progress.{line_chosen, lines_chosen, verdict_of}
use Rattle.retro_redo.specs.Repair.{verdict_by, verdicts_in}
use Rattle.retro_redo.specs.Settled.{AreSettled, IsSettled, recording_chosen}
use Rattle.retro_redo.specs.declared.repair.Repair.{Repair}
use Rattle.retro_redo.specs.declared.step.Step.{Step}
use Rattle.retro_redo.specs.declared.step.Step.TheVariants.{Cancel, Keep, Take}
use Rattle.retro_redo.specs.declared.verdict.Verdict.TheVariants.{Kept}
use Rattle.retro_redo.proofs.Verdicts.{again_verdicts, chosen_verdicts, pair_in, verdict_again, verdicts_chosen}
use Rattle.casebook_cause.specs.Cause.{IsAlike, IsCause, changes_for, notes_of, verdict_at, verdict_on}

-- ---- a repair by choices

kept_step : (m : ℕ) (l : ℕ × Noted) (step : Step) (lines : List (ℕ × Noted)) (steps : List Step) (b : Bool)
    → (l.0 == m) ≡ b
    → (if b then Some (verdict_of step) else verdict_at m (verdicts_chosen lines steps)) ≡ Some Kept
    → (verdict_at m (verdicts_chosen lines steps) ≡ Some Kept
    → noted_at m (lines_chosen lines steps) ≡ noted_at m lines)
    → noted_at m (line_chosen l step ++ lines_chosen lines steps) ≡ (if b then Some l.1 else noted_at m lines)
kept_step m l Cancel lines steps true e is rest = cc
kept_step m l Cancel lines steps false e is rest = rest is
kept_step m l Keep lines steps true e is rest =
    ap (λ (d : Bool). if d then Some l.1 else noted_at m (lines_chosen lines steps)) e
kept_step m l Keep lines steps false e is rest =
    ap (λ (d : Bool). if d then Some l.1 else noted_at m (lines_chosen lines steps)) e ∙ rest is
kept_step m l (Take run) lines steps true e is rest = cc
kept_step m l (Take run) lines steps false e is rest =
    ap (λ (d : Bool). if d then Some (noted_of run) else noted_at m (lines_chosen lines steps)) e ∙ rest is

kept_same : (m : ℕ) (lines : List (ℕ × Noted)) (steps : List Step)
    → verdict_at m (verdicts_chosen lines steps) ≡ Some Kept
    → noted_at m (lines_chosen lines steps) ≡ noted_at m lines
kept_same m [] steps is = absurd (none_some Kept is)
kept_same m (l ∷ lines) [] is = absurd (none_some Kept is)
kept_same m (l ∷ lines) (step ∷ steps) is =
    kept_step m l step lines steps (l.0 == m) refl is (kept_same m lines steps)

-- ---- a repair that runs all lines again

never_by : (o : Option (List ℕ)) → Some (verdict_by o) ≡ Some Kept → ⊥
never_by None is = cc
never_by (Some text) is = cc

never_again : (m : ℕ) (edit : ℕ → Option Edit) (lines : List (ℕ × Noted))
    → verdict_at m (map (verdict_again edit) lines) ≡ Some Kept → ⊥
never_again m edit [] is = none_some Kept is
never_again m edit (l ∷ lines) is = by_test (l.0 == m) is (never_again m edit lines)
  where
    by_test : (b : Bool)
        → (if b then Some (verdict_by (text_now edit l)) else verdict_at m (map (verdict_again edit) lines)) ≡ Some Kept
        → (verdict_at m (map (verdict_again edit) lines) ≡ Some Kept → ⊥) → ⊥
    by_test true e rest = never_by (text_now edit l) e
    by_test false e rest = rest e

-- ---- causes

kept_alike : (r : RecordingValue) (steps : List Step) (repair : Repair) (q : Ask) (m : ℕ)
    → repair.recording ≡ recording_chosen r steps → verdicts_in repair ≡ verdicts_chosen r.lines steps
    → verdict_on m repair ≡ Some Kept → IsAlike q r repair.recording m
kept_alike r steps repair q m recording_is verdicts_are kept =
    ap (λ o. changes_for q (notes_of o))
    (sym (kept_same m r.lines steps (sym (ap (verdict_at m) verdicts_are) ∙ kept))
    ∙ ap (λ (x : RecordingValue). noted_at m x.lines) (sym recording_is))

pub not_kept : (edit : ℕ → Option Edit) (r : RecordingValue) (repair : Repair) (q : Ask) (n m : ℕ)
    → AreSettled edit r repair → IsCause q n r repair.recording m → verdict_on m repair ≢ Some Kept
not_kept edit r repair q n m settled cause kept =
    let steps = settled.0 in
    let whole : IsSettled edit r steps repair = settled.1 in
    let lawless : ¬ (IsWellFormed (recording_chosen r steps)) = λ w.
    cause.otherwise (kept_alike r steps repair q m (whole.chosen w).recording_is
    (chosen_verdicts edit r.lines steps repair.lines.items r.first r.first (whole.chosen w).lines_are) kept) in
    never_again m edit r.lines (sym (ap (verdict_at m) (ap (map pair_in) (whole.again lawless).lines_are ∙ again_verdicts edit r.lines)) ∙ kept)
