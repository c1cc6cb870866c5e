-- Each line of a repair is run in a lawful state that has the sessions of all lines.
use Rattle.std.proofs.Common.{◌≡◌, ◌∙◌, ℕ, List, [], ◌∷◌, ◌++◌, Option, IsTrue, refl, sym, ap, subst, map}
use Rattle.std.specs.FinMap as finmap
use Rattle.retro_tree.specs.Lawful.{IsLawful}
use Rattle.retro_tree.specs.Notes.{after}
use Rattle.retro_tree.specs.declared.state.State.{State}
use Rattle.retro_tree.proofs.Small.{first_true, both_true}
use Rattle.retro_shell.specs.Line.{line}
use Rattle.retro_keep.specs.Edit.{edited}
use Rattle.retro_keep.specs.Recording.{AllRecorded, IsWellFormed, RecordingValue, script_line, sid_in}
use Rattle.retro_keep.specs.Runs.{outcome}
use Rattle.retro_keep.specs.Script.{have_sessions, sid_of}
use Rattle.retro_keep.specs.declared.edit.Edit.{Edit}
use Rattle.retro_keep.specs.declared.noted.Noted.{Noted}
use Rattle.retro_keep.specs.declared.script.ScriptLine.{ScriptLine}
use Rattle.retro_keep.proofs.Edited.{known_edited}
use Rattle.retro_keep.proofs.Recorded.{recorded_keeps_law, recorded_keeps_sessions}
use Rattle.retro_redo.specs.Repair.{IsRepair, edited_lines}
use Rattle.retro_redo.specs.declared.repair.Repair.{Repair}

-- a lawful state with some sessions
pub record IsFit (sids : List ℕ) (t : State) : Type 0 where
  pub lawful : IsLawful t
  pub known : IsTrue (have_sessions t sids)

-- the state before each line is one, and so is the last state
unfoldable pub AreFit : List ℕ → List ScriptLine → State → Type 0
AreFit sids [] t = IsFit sids t
AreFit sids (l ∷ lines) t = IsFit sids t × AreFit sids lines (line l.sid l.text t).0

pub fit_here : (sids : List ℕ) (lines : List ScriptLine) (t : State) → AreFit sids lines t → IsFit sids t
unfolding AreFit
fit_here sids [] t fit = fit
fit_here sids (l ∷ lines) t fit = fit.0

-- what comes after the first lines is run in such states too
pub fit_after : (sids : List ℕ) (now rest : List ScriptLine) (t : State) → AreFit sids (now ++ rest) t
    → AreFit sids rest (outcome now t).0
unfolding AreFit
fit_after sids [] rest t fit = fit
fit_after sids (l ∷ now) rest t fit = fit_after sids now rest (line l.sid l.text t).0 fit.1

recorded_fit : (sids : List ℕ) (lines : List (ℕ × Noted)) (t : State) → AllRecorded lines t → IsLawful t
    → IsTrue (have_sessions t (map sid_in lines)) → IsTrue (have_sessions t sids)
    → AreFit sids (map script_line lines) t
unfolding AreFit
recorded_fit sids [] t recorded lawful known all = record { lawful = lawful; known = all }
recorded_fit sids (l ∷ lines) t recorded lawful known all =
    let has = first_true (finmap.contains_key t.sessions l.1.sid) (have_sessions t (map sid_in lines)) known in
    let known_rest = both_true (finmap.contains_key t.sessions l.1.sid) (have_sessions t (map sid_in lines)) known in
    let next : State = after l.1.notes t in
    let made : (line l.1.sid l.1.text t).0 ≡ next = ap (λ (p : State × List ℕ). p.0) recorded.0.means in (
      record { lawful = lawful; known = all },
      subst (AreFit sids (map script_line lines)) (sym made)
          (recorded_fit sids lines next recorded.1 (recorded_keeps_law l.1 t next recorded.0 refl lawful has)
          (recorded_keeps_sessions l.1 t next (map sid_in lines) recorded.0 refl lawful has known_rest)
          (recorded_keeps_sessions l.1 t next sids recorded.0 refl lawful has all)),
    )

same_sids : (lines : List (ℕ × Noted)) → map sid_in lines ≡ map sid_of (map script_line lines)
same_sids [] = refl
same_sids (l ∷ lines) = ap (λ sids. l.1.sid ∷ sids) (same_sids lines)

-- the edited lines, if they were recorded
edited_fit : (sids : List ℕ) (edit : ℕ → Option Edit) (lines again : List (ℕ × Noted)) (first : State)
    → IsLawful first → IsTrue (have_sessions first (map sid_in lines)) → IsTrue (have_sessions first sids)
    → map script_line again ≡ edited edit (map script_line lines) → AllRecorded again first
    → AreFit sids (edited edit (map script_line lines)) first
edited_fit sids edit lines again first lawful known all same recorded =
    let known_lines : IsTrue (have_sessions first (map sid_of (map script_line lines))) =
    ap (have_sessions first) (sym (same_sids lines)) ∙ known in
    let known_again : IsTrue (have_sessions first (map sid_in again)) =
    ap (have_sessions first) (same_sids again ∙ ap (map sid_of) same)
    ∙ known_edited first edit (map script_line lines) known_lines in
    subst (λ ls. AreFit sids ls first) same (recorded_fit sids again first recorded lawful known_again all)

pub repair_fit : (sids : List ℕ) (edit : ℕ → Option Edit) (r : RecordingValue) (repair : Repair) → IsWellFormed r
    → IsRepair edit r repair → IsTrue (have_sessions r.first sids) → AreFit sids (edited_lines edit r) r.first
repair_fit sids edit r repair formed is all =
    edited_fit sids edit r.lines repair.recording.lines r.first formed.lawful formed.known all is.recording_is.lines
    (subst (AllRecorded repair.recording.lines) is.recording_is.first is.recording_is.recorded)
