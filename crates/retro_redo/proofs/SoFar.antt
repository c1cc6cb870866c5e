-- The states between two steps are those of running the settled lines.
use Rattle.std.proofs.Common.{◌≡◌, ◌∙◌, ℕ, zero, suc, List, [], ◌∷◌, Option, length, map, take, refl, sym, ap, subst}
use Rattle.std.proofs.Common.{IsTrue}
use Rattle.std.specs.FinMap as finmap
use Rattle.retro_tree.specs.Notes.{after}
use Rattle.retro_tree.specs.Overlay.{OverlayMap}
use Rattle.retro_tree.specs.declared.state.State.{State}
use Rattle.retro_tree.proofs.Small.{and_true, both_true, first_true}
use Rattle.retro_keep.specs.Recording.{AllRecorded, IsRecordingOf, IsWellFormed, last_state, script_in}
use Rattle.retro_keep.specs.Recording.{script_line, sid_in}
use Rattle.retro_keep.specs.Runs.{Output, after_line, outcome}
use Rattle.retro_keep.specs.Script.{have_sessions}
use Rattle.retro_keep.specs.declared.edit.Edit.{Edit}
use Rattle.retro_redo.specs.inner.Keeping.{Keeps}
use Rattle.retro_redo.specs.Progress.{ProgressValue, Settles, edit_in, chosen, recorded_after, repaired_after}
use Rattle.retro_redo.specs.SoFar.{AreStatesOfRuns}
use Rattle.retro_redo.specs.declared.step.Step.{Step}
use Rattle.retro_redo.specs.declared.verdict.SettledLine.{SettledLine}
use Rattle.retro_redo.proofs.Final.{settles_final}
use Rattle.retro_redo.proofs.Positions.{Line, recorded_none, repaired_none}

-- ---- the settled lines alone

taken : (edit : ℕ → Option Edit) (lines : List Line) (steps : List Step) (s t : State)
    → Settles edit lines steps s t → Settles edit (take (length steps) lines) steps s t
taken edit lines [] s t h = tt
taken edit [] (step ∷ steps) s t h = absurd h
taken edit (l ∷ lines) (step ∷ steps) s t h =
    (h.0, h.1, taken edit lines steps (after l.1.notes s) (after (chosen step l.1) t) h.2)

length_taken : (edit : ℕ → Option Edit) (lines : List Line) (steps : List Step) (s t : State)
    → Settles edit lines steps s t → length steps ≡ length (take (length steps) lines)
length_taken edit lines [] s t h = refl
length_taken edit [] (step ∷ steps) s t h = absurd h
length_taken edit (l ∷ lines) (step ∷ steps) s t h =
    ap suc (length_taken edit lines steps (after l.1.notes s) (after (chosen step l.1) t) h.2)

recorded_taken : (edit : ℕ → Option Edit) (lines : List Line) (steps : List Step) (s t : State)
    → Settles edit lines steps s t
    → recorded_after lines steps s ≡ last_state (take (length steps) lines) s
recorded_taken edit lines [] s t h = recorded_none lines s
recorded_taken edit [] (step ∷ steps) s t h = absurd h
recorded_taken edit (l ∷ lines) (step ∷ steps) s t h =
    recorded_taken edit lines steps (after l.1.notes s) (after (chosen step l.1) t) h.2

repaired_taken : (edit : ℕ → Option Edit) (lines : List Line) (steps : List Step) (s t : State)
    → Settles edit lines steps s t
    → repaired_after (take (length steps) lines) steps t ≡ repaired_after lines steps t
repaired_taken edit lines [] s t h = sym (repaired_none lines t)
repaired_taken edit [] (step ∷ steps) s t h = absurd h
repaired_taken edit (l ∷ lines) (step ∷ steps) s t h =
    repaired_taken edit lines steps (after l.1.notes s) (after (chosen step l.1) t) h.2

recorded_front : (n : ℕ) (lines : List Line) (s : State) → AllRecorded lines s → AllRecorded (take n lines) s
recorded_front zero lines s h = tt
recorded_front (suc n) [] s h = tt
recorded_front (suc n) (l ∷ lines) s h = (h.0, recorded_front n lines (after l.1.notes s) h.1)

known_front : (n : ℕ) (lines : List Line) (t : State) → IsTrue (have_sessions t (map sid_in lines))
    → IsTrue (have_sessions t (map sid_in (take n lines)))
known_front zero lines t h = refl
known_front (suc n) [] t h = refl
known_front (suc n) (l ∷ lines) t h =
    and_true _ _ (first_true (finmap.contains_key t.sessions l.1.sid) (have_sessions t (map sid_in lines)) h)
    (known_front n lines t
    (both_true (finmap.contains_key t.sessions l.1.sid) (have_sessions t (map sid_in lines)) h))

-- ---- the run of all of them

last_of_run : (lines : List Line) (s : State) → AllRecorded lines s
    → (outcome (map script_line lines) s).0 ≡ last_state lines s
last_of_run [] s h = refl
last_of_run (l ∷ lines) s h =
    ap (λ r. (after_line l.0 r (outcome (map script_line lines))).0) h.0.means
    ∙ last_of_run lines (after l.1.notes s) h.1

pub states_of_runs : (p : ProgressValue) (overlay : OverlayMap) (lines : List SettledLine) → Keeps p overlay lines
    → IsWellFormed p.recording → IsRecordingOf (script_in p.recording) p.recording → AreStatesOfRuns p
states_of_runs p overlay lines keeps well is =
    let all = p.recording.lines in
    let first = p.recording.first in
    let steps = p.choices in
    let n = length p.choices in
    let front = take (length p.choices) p.recording.lines in
    let recorded = recorded_front n all first is.recorded in
    let final = settles_final (edit_in p) front steps first first recorded well.lawful
    (known_front n all first well.known) (taken (edit_in p) all steps first first keeps.settles)
    (length_taken (edit_in p) all steps first first keeps.settles) in
    record {
      recorded_is = recorded_taken (edit_in p) all steps first first keeps.settles
          ∙ sym (last_of_run front first recorded);
      repaired_is = sym (ap (λ (x : State × List Output). x.0) final.outcome_is
          ∙ repaired_taken (edit_in p) all steps first first keeps.settles);
    }

-- the same of the progress as contracts see it, where q is the progress as its fields are
pub states_seen : (p q : ProgressValue) (overlay : OverlayMap) (lines : List SettledLine) → q ≡ p → Keeps q overlay lines
    → IsWellFormed p.recording → IsRecordingOf (script_in p.recording) p.recording → AreStatesOfRuns p
states_seen p q overlay lines e keeps =
    states_of_runs p overlay lines (subst (λ (x : ProgressValue). Keeps x overlay lines) e keeps)
