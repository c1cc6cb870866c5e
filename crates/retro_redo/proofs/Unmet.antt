-- The notes of unmet lines.
use Rattle.std.proofs.Common.{◌≡◌, ◌∙◌, Bool, false, List, [], ◌∷◌, Option, None, Some, MatchBool, length, sym, ap, subst}
use Rattle.std.specs.List.{slice_get}
use Rattle.retro_tree.specs.Exact.{IsExact}
use Rattle.retro_tree.specs.Notes.{after, AgreeOn, Holds}
use Rattle.retro_tree.specs.Overlay.{OverlayMap}
use Rattle.retro_tree.specs.declared.state.State.{State}
use Rattle.retro_tree.proofs.NoteLaws.{holds_where_agreed}
use Rattle.retro_difference.specs.Meeting.{Met}
use Rattle.retro_keep.specs.Recording.{AllRecorded, IsRecordingOf, script_in}
use Rattle.retro_keep.specs.declared.edit.Edit.{Edit}
use Rattle.retro_redo.specs.inner.Keeping.{Keeps}
use Rattle.retro_redo.specs.inner.Meetings.{is_met_by}
use Rattle.retro_redo.specs.Progress.{ProgressValue, edit_in, next_line, recorded_after, recorded_now, repaired_now}
use Rattle.retro_redo.specs.declared.step.Step.{Step}
use Rattle.retro_redo.specs.declared.verdict.SettledLine.{SettledLine}
use Rattle.retro_redo.proofs.EditCases.{met_by_edit, not_used}
use Rattle.retro_redo.proofs.Keeping.{IsDecided}
use Rattle.retro_redo.proofs.Positions.{Line, not_none}

-- in a recording of its lines, each line's notes hold in the recorded state before it
recorded_holds : (lines : List Line) (steps : List Step) (l : Line) (s : State) → AllRecorded lines s
    → slice_get lines (length steps) ≡ Some l → Holds l.1.notes (recorded_after lines steps s)
recorded_holds [] steps l s all next = absurd (not_none l next)
recorded_holds (k ∷ lines) [] l s all next =
    let e : k ≡ l = cc in subst (λ (x : Line). Holds x.1.notes s) e all.0.holds
recorded_holds (k ∷ lines) (step ∷ steps) l s all next = recorded_holds lines steps l (after k.1.notes s) all.1 next

-- where p is the progress as contracts see it, and q as its fields are
module _ (p q : ProgressValue) (overlay : OverlayMap) (lines : List SettledLine) (used : Bool) (k : Line) (e : q ≡ p)
    (keeps : Keeps q overlay lines) (next : next_line p ≡ Some k)
    (decided : (s t : State) → IsExact overlay s t → MatchBool used (Met k.1.notes s t) (AgreeOn k.1.notes s t)) where
  exact : IsExact overlay (recorded_now p) (repaired_now p)
  exact = subst (λ x. IsExact overlay (recorded_now x) (repaired_now x)) e keeps.exact

  same : (l : Line) → next_line p ≡ Some l → k ≡ l
  same l next_is =
      let both : ◌≡◌ {A = Option Line} (Some k) (Some l) = sym next ∙ next_is in cc

  pub met_now : (edit : Option Edit) (b : Bool) → edit ≡ edit_in p k.0 → b ≡ is_met_by edit used → (l : Line)
      → next_line p ≡ Some l → IsDecided p l b
  met_now edit b edit_is is l next_is =
      subst (λ (x : Line). IsDecided p x b) (same l next_is)
      (subst (IsDecided p k) (sym (is ∙ ap (λ (o : Option Edit). is_met_by o used) edit_is))
      (met_by_edit (edit_in p k.0) used k.1.notes (recorded_now p) (repaired_now p)
      (decided (recorded_now p) (repaired_now p) exact)))

  pub unmet_holds : (edit : Option Edit) (b : Bool) → edit ≡ edit_in p k.0 → b ≡ is_met_by edit used
      → IsRecordingOf (script_in p.recording) p.recording → (l : Line) → next_line p ≡ Some l
      → edit_in p l.0 ≡ None → b ≡ false → Holds l.1.notes (repaired_now p)
  unmet_holds edit b edit_is is recorded l next_is none not_met =
      let here = same l next_is in
      let unedited : edit ≡ None = edit_is ∙ ap (λ (x : Line). edit_in p x.0) here ∙ none in
      let agreed = subst (λ (x : Bool). MatchBool x (Met k.1.notes (recorded_now p) (repaired_now p))
      (AgreeOn k.1.notes (recorded_now p) (repaired_now p))) (not_used edit used unedited (sym is ∙ not_met))
      (decided (recorded_now p) (repaired_now p) exact) in
      subst (λ (x : Line). Holds x.1.notes (repaired_now p)) here
      (holds_where_agreed k.1.notes (recorded_now p) (repaired_now p) agreed
      (recorded_holds p.recording.lines p.choices k p.recording.first recorded.recorded next))
