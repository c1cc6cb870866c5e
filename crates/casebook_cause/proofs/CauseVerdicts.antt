-- A cause is a line of the recording, so it has a verdict. It isn't kept, so it is cancelled or
-- redone.
use Rattle.std.proofs.Common.{◌≡◌, ◌∙◌, ◌==◌, ◌⊎◌, inl, inr, ℕ, Bool, true, false, List, [], ◌∷◌, ◌++◌, map, length}
use Rattle.std.proofs.Common.{Option, Some, None, refl, sym, ap}
use Rattle.std.specs.Bool.{if◌then◌else◌}
use Rattle.retro_tree.specs.declared.ask.Ask.{Ask}
use Rattle.retro_tree.proofs.Small.{none_some}
use Rattle.retro_keep.specs.Edit.{edited, line_run, text_run}
use Rattle.retro_keep.specs.Recording.{IsWellFormed, RecordingValue, noted_at, noted_of, script_line}
use Rattle.retro_keep.specs.declared.edit.Edit.{Edit}
use Rattle.retro_keep.specs.declared.noted.Noted.{Noted}
use Rattle.retro_history.proofs.Chains.{Lines}
use Rattle.retro_redo.specs.Moments.{text_now}
use Rattle.retro_redo.specs.Progress.{line_chosen, lines_chosen, verdict_of}
use Rattle.retro_redo.specs.Repair.{verdict_by}
use Rattle.retro_redo.specs.Settled.{AreSettled, IsSettled, recording_chosen}
use Rattle.retro_redo.specs.declared.repair.Repair.{Repair}
use Rattle.retro_redo.specs.declared.step.Step.{Step}
use Rattle.retro_redo.specs.declared.step.Step.TheVariants.{Cancel, Keep, Take}
use Rattle.retro_redo.specs.declared.verdict.Verdict.{Verdict}
use Rattle.retro_redo.specs.declared.verdict.Verdict.TheVariants.{Cancelled, Kept, Redone}
use Rattle.retro_redo.proofs.Verdicts.{again_verdicts, chosen_verdicts, pair_in, verdict_again, verdicts_chosen}
use Rattle.casebook_cause.specs.Cause.{IsAlike, IsCause, changes_for, notes_of, verdict_at, verdict_on}
use Rattle.casebook_cause.proofs.NotKept.{not_kept}
use Rattle.casebook_cause.proofs.Redone.{AreEdited, first_edited}

-- no line has a number, in the recording and in the repaired one
abbrev IsNoLine : ℕ → Lines → Lines → Type 0
IsNoLine m one two = (noted_at m one ≡ None) × (noted_at m two ≡ None)

-- ---- a repair by choices

no_choice : (m : ℕ) (l : ℕ × Noted) (step : Step) (lines : Lines) (steps : List Step) (b : Bool) → (l.0 == m) ≡ b
    → (if b then Some (verdict_of step) else verdict_at m (verdicts_chosen lines steps)) ≡ None
    → (verdict_at m (verdicts_chosen lines steps) ≡ None → IsNoLine m lines (lines_chosen lines steps))
    → ((if b then Some l.1 else noted_at m lines) ≡ None)
    × (noted_at m (line_chosen l step ++ lines_chosen lines steps) ≡ None)
no_choice m l step lines steps true e is rest = absurd (none_some (verdict_of step) (sym is))
no_choice m l Cancel lines steps false e is rest = rest is
no_choice m l Keep lines steps false e is rest =
    ((rest is).0, ap (λ (d : Bool). if d then Some l.1 else noted_at m (lines_chosen lines steps)) e ∙ (rest is).1)
no_choice m l (Take run) lines steps false e is rest = (
  (rest is).0,
  ap (λ (d : Bool). if d then Some (noted_of run) else noted_at m (lines_chosen lines steps)) e ∙ (rest is).1,
)

none_chosen : (m : ℕ) (lines : Lines) (steps : List Step) → length steps ≡ length lines
    → verdict_at m (verdicts_chosen lines steps) ≡ None → IsNoLine m lines (lines_chosen lines steps)
none_chosen m [] steps all is = (refl, refl)
none_chosen m (l ∷ lines) [] all is = cc
none_chosen m (l ∷ lines) (step ∷ steps) all is =
    no_choice m l step lines steps (l.0 == m) refl is (none_chosen m lines steps cc)

-- ---- a repair that runs all lines again

none_edited : (edit : ℕ → Option Edit) (m : ℕ) (lines now : Lines) → AreEdited edit lines now
    → verdict_at m (map (verdict_again edit) lines) ≡ None → IsNoLine m lines now
none_edited edit m [] [] are is = (refl, refl)
none_edited edit m [] (k ∷ now) are is = cc
none_edited edit m (l ∷ lines) now are is =
    go (l.0 == m) refl is (text_run (edit l.0) l.1.text) now are (λ ks e f. none_edited edit m lines ks e f)
  where
    go : (b : Bool) → (l.0 == m) ≡ b
        → (if b then Some (verdict_by (text_now edit l)) else verdict_at m (map (verdict_again edit) lines)) ≡ None
        → (o : Option (List ℕ)) (ks : Lines)
        → map script_line ks ≡ line_run (script_line l) o ++ edited edit (map script_line lines)
        → ((js : Lines) → AreEdited edit lines js → verdict_at m (map (verdict_again edit) lines) ≡ None
        → IsNoLine m lines js)
        → ((if b then Some l.1 else noted_at m lines) ≡ None) × (noted_at m ks ≡ None)
    go true e is o ks are rest = absurd (none_some (verdict_by (text_now edit l)) (sym is))
    go false e is None ks are rest = rest ks are is
    go false e is (Some text) [] are rest = cc
    go false e is (Some text) (k ∷ ks) are rest =
        let tail : map script_line ks ≡ edited edit (map script_line lines) = cc in
        let number : k.0 ≡ l.0 = ap (λ s. s.number) (first_edited k l text ks _ are) in (
          (rest ks tail is).0,
          ap (λ (d : Bool). if d then Some k.1 else noted_at m ks) (ap (λ j. j == m) number ∙ e) ∙ (rest ks tail is).1,
        )

-- ---- causes

no_line_alike : (q : Ask) (m : ℕ) (one two : RecordingValue) → IsNoLine m one.lines two.lines → IsAlike q one two m
no_line_alike q m one two none = ap (λ o. changes_for q (notes_of o)) (none.0 ∙ sym none.1)

has_verdict : (edit : ℕ → Option Edit) (r : RecordingValue) (repair : Repair) (q : Ask) (n m : ℕ)
    → AreSettled edit r repair → IsCause q n r repair.recording m → verdict_on m repair ≡ None → ⊥
has_verdict edit r repair q n m settled cause missing =
    let steps = settled.0 in
    let whole : IsSettled edit r steps repair = settled.1 in
    let lawless : ¬ (IsWellFormed (recording_chosen r steps)) = λ w.
    let chosen = whole.chosen w in
    let none = none_chosen m r.lines steps whole.all (sym (ap (verdict_at m)
    (chosen_verdicts edit r.lines steps repair.lines.items r.first r.first chosen.lines_are)) ∙ missing) in
    cause.otherwise (no_line_alike q m r repair.recording
    (none.0, ap (λ (x : RecordingValue). noted_at m x.lines) chosen.recording_is ∙ none.1)) in
    let again = whole.again lawless in
    cause.otherwise (no_line_alike q m r repair.recording
    (none_edited edit m r.lines repair.recording.lines again.recording_is.lines
    (sym (ap (verdict_at m) (ap (map pair_in) again.lines_are ∙ again_verdicts edit r.lines)) ∙ missing)))

pub cancelled_or_redone : (edit : ℕ → Option Edit) (r : RecordingValue) (repair : Repair) (q : Ask) (n m : ℕ)
    → AreSettled edit r repair → IsCause q n r repair.recording m
    → (verdict_on m repair ≡ Some Cancelled) ⊎ (verdict_on m repair ≡ Some Redone)
cancelled_or_redone edit r repair q n m settled cause =
    go (verdict_on m repair) (has_verdict edit r repair q n m settled cause)
    (not_kept edit r repair q n m settled cause)
  where
    go : (o : Option Verdict) → (o ≡ None → ⊥) → (o ≡ Some Kept → ⊥) → (o ≡ Some Cancelled) ⊎ (o ≡ Some Redone)
    go None there kept = absurd (there refl)
    go (Some Cancelled) there kept = inl refl
    go (Some Redone) there kept = inr refl
    go (Some Kept) there kept = absurd (kept refl)
