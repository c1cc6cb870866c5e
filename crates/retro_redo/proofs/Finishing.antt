-- The end of a repair: all lines are settled.
use Rattle.std.proofs.Common.{◌≡◌, ◌∙◌, ℕ, Bool, not, List, [], ◌∷◌, length, map, Option, Some, None}
use Rattle.std.proofs.Common.{Result, Ok, Err}
use Rattle.std.proofs.Common.{IsTrue, arith, refl, sym, ap, ap₂, cond, subst, nat_lt, ◌<◌}
use Rattle.std.proofs.Common.{IfOk, ◌↔◌}
use Rattle.std.specs.FinMap as finmap
use Rattle.std.specs.List.{flat_map}
use Rattle.std.specs.Option.{is_some}
use Rattle.std.proofs.lemmas.Bool.{false≢true, ltb-true, lt-ltb}
use Rattle.retro_tree.specs.Commit.{committed}
use Rattle.retro_tree.specs.Overlay.{OverlayMap}
use Rattle.retro_tree.specs.declared.state.State.{State}
use Rattle.retro_tree.proofs.Small.{first_true, both_true, and_true}
use Rattle.retro_keep.specs.Edit.{edit_of}
use Rattle.retro_keep.specs.Recording.{AllRecorded, IsRecordingOf, IsWellFormed, RecordingValue, last_state}
use Rattle.retro_keep.specs.Recording.{number_in, output_in}
use Rattle.retro_keep.specs.Recording.{script_in, script_line, sid_in}
use Rattle.retro_keep.specs.Script.{IsScript, ScriptValue, have_sessions, number_of, rises_from, script_of_lines}
use Rattle.retro_keep.specs.Script.{sid_of}
use Rattle.retro_keep.specs.declared.edit.Edit.{Edit}
use Rattle.retro_keep.specs.declared.script.LinesFault.{LinesFault}
use Rattle.retro_keep.specs.declared.script.LinesFault.TheVariants as lines_faults
use Rattle.retro_keep.specs.declared.script.ScriptLine.{ScriptLine}
use Rattle.retro_keep.proofs.Edited.{script_edited}
use Rattle.retro_keep.proofs.Recorded.{well_formed}
use Rattle.retro_redo.specs.Final.{AreRight, IsFinal}
use Rattle.retro_redo.specs.inner.Keeping.{Keeps}
use Rattle.retro_redo.specs.Editing.{EditMap}
use Rattle.retro_redo.specs.Moments.{AreSettledLines, IsVerdict, Moment}
use Rattle.retro_redo.specs.Progress.{ProgressValue, edit_in, lines_chosen, next_line, repaired_now}
use Rattle.retro_redo.specs.Progress.{AreLinesBy, AreTakenIfMet, repaired_after, repaired_recording, settled_now}
use Rattle.retro_redo.specs.Repair.{IsRepair, IsRunAgain, compensation_in, edited_lines, moments_of, repaired_outputs}
use Rattle.retro_redo.specs.Repair.{repaired_state, script_now}
use Rattle.retro_redo.specs.Settled.{AreSettled, IsSettled}
use Rattle.retro_redo.specs.declared.repair.Repair.{Repair}
use Rattle.retro_redo.specs.declared.step.Step.{Step}
use Rattle.retro_redo.specs.declared.verdict.SettledLine.{SettledLine}
use Rattle.retro_redo.proofs.Choices.{chosen_from, last_chosen}
use Rattle.retro_redo.proofs.Compensating.{outputs_differ}
use Rattle.retro_redo.proofs.Final.{settles_final}
use Rattle.retro_redo.proofs.Keeping.{repaired_is}
use Rattle.retro_redo.proofs.Positions.{Line, all_settled, recorded_all}

-- ---- the script of the edited lines

pub numbers_are : (lines : List Line) → map number_of (map script_line lines) ≡ map number_in lines
numbers_are [] = refl
numbers_are (l ∷ lines) = ap (λ ns. l.0 ∷ ns) (numbers_are lines)

sids_are : (lines : List Line) → map sid_of (map script_line lines) ≡ map sid_in lines
sids_are [] = refl
sids_are (l ∷ lines) = ap (λ ns. l.1.sid ∷ ns) (sids_are lines)

pub rises_from_less : (m n : ℕ) (numbers : List ℕ) → m < n → IsTrue (rises_from n numbers)
    → IsTrue (rises_from m numbers)
rises_from_less m n [] less rising = refl
rises_from_less m n (number ∷ numbers) less rising =
    let above = ltb-true n number (first_true (nat_lt n number) _ rising) in
    and_true _ _ (lt-ltb m number (omega arith)) (both_true (nat_lt n number) _ rising)

pub script_edited_lines : (edit : ℕ → Option Edit) (r : RecordingValue) → IsWellFormed r → IsScript (script_now edit r)
script_edited_lines edit r w =
    script_edited edit (script_in r) (record {
      lawful = w.lawful;
      rising = ap (rises_from 0) (numbers_are r.lines) ∙ w.rising;
      known = ap (have_sessions r.first) (sids_are r.lines) ∙ w.known;
    })

-- the code makes this script of the edited lines
pub script_made : (edit : ℕ → Option Edit) (r : RecordingValue) (first : State) (lines : List ScriptLine)
    → IsWellFormed r → first ≡ r.first → lines ≡ edited_lines edit r
    → script_of_lines first lines ≡ Ok (script_now edit r)
unfolding script_of_lines
script_made edit r first lines w e f =
    let is = script_edited_lines edit r w in
    ap₂ script_of_lines e f
    ∙ ap (λ b. cond (not b) (Err lines_faults.NumbersNotRising) (if_known
    (have_sessions r.first (map sid_of (edited_lines edit r))))) is.rising
    ∙ ap if_known is.known
  where
    if_known : Bool → Result ScriptValue LinesFault
    if_known b = cond (not b) (Err lines_faults.UnknownSession) (Ok (script_now edit r))

pub no_fault : {A E : Type 0} (x : A) (e : E) → Ok x ≡ Err e → ⊥
no_fault x e h = cc

pub script_is : (made : ScriptValue) (s : ScriptValue)
    → ◌≡◌ {A = Result ScriptValue LinesFault} (Ok made) (Ok s) → made ≡ s
script_is made s h = cc

-- the numbers of lines that a recording of a script has
pub numbers_of : (script : ScriptValue) (r : RecordingValue) → IsRecordingOf script r
    → map number_in r.lines ≡ map number_of script.lines
numbers_of script r is = sym (numbers_are r.lines) ∙ ap (map number_of) is.lines

-- ---- the answer

-- each settled line has its choice
pub all_chosen : (p q : ProgressValue) (overlay : OverlayMap) (lines : List SettledLine) → q ≡ p → Keeps q overlay lines
    → next_line p ≡ None → length q.choices ≡ length q.recording.lines
all_chosen p q overlay lines e keeps ended =
    all_settled (edit_in q) q.recording.lines q.choices q.recording.first q.recording.first keeps.settles
    (ap next_line e ∙ ended)

-- lines by choices that are right are as they should be
lines_right : (edit : ℕ → Option Edit) (ms : List Moment) (steps : List Step) (lines : List SettledLine)
    → AreRight edit ms steps → AreLinesBy edit ms steps lines → AreSettledLines edit ms lines
lines_right edit [] [] lines right by = by
lines_right edit [] (step ∷ steps) lines right by = absurd by
lines_right edit (m ∷ ms) [] lines right by = absurd by
lines_right edit (m ∷ ms) (step ∷ steps) [] right by = absurd by
lines_right edit (m ∷ ms) (step ∷ steps) (l ∷ lines) right by = (
  (by.0.0, subst (IsVerdict edit m) (sym by.0.1) right.0, by.0.2),
  lines_right edit ms steps lines right.1 by.1,
)

module _ (p : ProgressValue) (overlay : OverlayMap) (lines : List SettledLine) (keeps : Keeps p overlay lines)
    (w : IsWellFormed p.recording) (ended : next_line p ≡ None)
    (is : IsRecordingOf (script_in p.recording) p.recording) where
  all : length p.choices ≡ length p.recording.lines
  all = all_settled (edit_in p) p.recording.lines p.choices p.recording.first p.recording.first keeps.settles ended

  final : IsFinal (edit_in p) p.recording.lines p.choices p.recording.first p.recording.first
  final = settles_final (edit_in p) p.recording.lines p.choices p.recording.first p.recording.first is.recorded
      w.lawful w.known keeps.settles all

  -- the lines as chosen are a recording's
  pub chosen_well_formed : IsWellFormed (repaired_recording p)
  chosen_well_formed =
      well_formed (script_now (edit_in p) p.recording) p.recording.from (lines_chosen p.recording.lines p.choices)
      (script_edited_lines (edit_in p) p.recording w) w.begins
      (chosen_from p.recording.from p.recording.lines p.choices w.not_before) final.lines_are final.recorded

  pub is_repair : (repair : Repair)
      → repair.recording ≡ repaired_recording p
      → repair.lines.items ≡ lines → IsRepair (edit_in p) p.recording repair
  is_repair repair recording left =
      let chosen = lines_chosen p.recording.lines p.choices in
      let state_is : repaired_state repair ≡ repaired_now p =
      ap (λ (r : RecordingValue). last_state r.lines r.first) recording
      ∙ last_chosen p.recording.lines p.choices p.recording.first in
      let outputs_are : repaired_outputs repair ≡ map output_in chosen =
      ap (λ (r : RecordingValue). map output_in r.lines) recording in
      record {
        outcome_is = ap₂ (λ s os. (s, os)) state_is outputs_are ∙ sym final.outcome_is;
        compensated = ap (λ (r : RecordingValue). flat_map (compensation_in r.lines) p.recording.lines) recording
            ∙ outputs_differ p.recording.lines p.choices all w.rising ∙ sym final.compensated;
        lines_are = subst (AreSettledLines (edit_in p) (moments_of (edit_in p) p.recording)) (sym left)
            (lines_right (edit_in p) (moments_of (edit_in p) p.recording) p.choices lines final.verdicts
            (subst (λ ms. AreLinesBy (edit_in p) ms p.choices lines) (sym final.on_the_way) keeps.lines_are));
        recording_is = record {
          first = ap (λ (r : RecordingValue). r.first) recording;
          lines = ap (λ (r : RecordingValue). map script_line r.lines) recording ∙ final.lines_are;
          recorded = subst (λ (r : RecordingValue). AllRecorded r.lines r.first) (sym recording) final.recorded;
        };
        begins = ap (λ (r : RecordingValue). r.from) recording;
      }

-- ---- the end of the code, where q is the progress as its fields are, and p as contracts see it

pub if_ok_all : {X E : Type 0} {P : X → Type 0} (r : Result X E) → ((x : X) → P x) → IfOk r P
if_ok_all (Ok x) h = h x
if_ok_all (Err e) h = tt

pub if_ok_map : {X E : Type 0} {P Q : X → Type 0} (r : Result X E) → IfOk r P → ((x : X) → P x → Q x) → IfOk r Q
if_ok_map (Ok x) k h = h x k
if_ok_map (Err e) k h = tt

pub none_is : {X : Type 0} (found : Option X) → ((x : X) → found ≡ Some x → ⊥) → found ≡ None
none_is None h = refl
none_is (Some x) h = absurd (h x refl)

module _ (p q : ProgressValue) (overlay : OverlayMap) (lines : List SettledLine) (e : q ≡ p) (keeps : Keeps q overlay lines)
    (w : IsWellFormed q.recording) (ended : next_line p ≡ None) where
  ended_in : next_line q ≡ None
  ended_in = ap next_line e ∙ ended

  -- the overlay makes the state after the lines as chosen of the one after all lines
  pub last_committed : committed overlay (last_state q.recording.lines q.recording.first)
      ≡ repaired_after q.recording.lines q.choices q.recording.first
  last_committed =
      ap (committed overlay)
      (sym (recorded_all q.recording.lines q.choices q.recording.first (all_chosen p q overlay lines e keeps ended)))
      ∙ repaired_is q q overlay lines refl keeps

  module _ (found : Option RecordingValue)
      (exact : IsTrue (is_some found) ↔ IsWellFormed (repaired_recording q)) where
    is_in : IsRecordingOf (script_in p.recording) p.recording → IsRecordingOf (script_in q.recording) q.recording
    is_in is = subst (λ x. IsRecordingOf (script_in x.recording) x.recording) (sym e) is

    -- on a recording the lines as chosen make one
    pub found_none : found ≡ None → IsRecordingOf (script_in p.recording) p.recording → ⊥
    found_none none is =
        false≢true (sym (ap is_some none)
        ∙ exact.1 (chosen_well_formed q overlay lines keeps w ended_in (is_in is)))

    -- each line has its choice, and the lines as chosen make no recording
    pub settled_again : found ≡ None → (repair : Repair) → IsRunAgain (edit_in q) q.recording repair
        → IsSettled (edit_in p) p.recording p.choices repair
    settled_again none repair again =
        subst (λ (x : ProgressValue). IsSettled (edit_in x) x.recording x.choices repair) e (record {
          settles = keeps.settles;
          all = all_chosen p q overlay lines e keeps ended;
          begins = again.begins;
          chosen = λ well. absurd (false≢true (sym (ap is_some none) ∙ exact.1 well));
          again = λ not_well. again;
        })

    -- each line has its choice, and the lines as chosen make a recording
    pub settled_found : (repair : Repair) (r : RecordingValue) → found ≡ Some r
        → repair.recording ≡ repaired_recording q
        → repair.lines.items ≡ lines → IsSettled (edit_in p) p.recording p.choices repair
    settled_found repair r some recording left =
        subst (λ (x : ProgressValue). IsSettled (edit_in x) x.recording x.choices repair) e (record {
          settles = keeps.settles;
          all = all_chosen p q overlay lines e keeps ended;
          begins = ap (λ (x : RecordingValue). x.from) recording;
          chosen = λ well. record {
            recording_is = recording;
            state_is = ap (λ (x : RecordingValue). last_state x.lines x.first) recording
                ∙ last_chosen q.recording.lines q.choices q.recording.first;
            outputs_are = ap (λ (x : RecordingValue). map output_in x.lines) recording;
            lines_are = subst (AreLinesBy (edit_in q) (settled_now q) q.choices) (sym left) keeps.lines_are;
          };
          again = λ not_well. absurd (not_well (exact.0 (ap is_some some)));
        })

    pub repair_found : (repair : Repair) → IsRecordingOf (script_in p.recording) p.recording
        → repair.recording ≡ repaired_recording q
        → repair.lines.items ≡ lines → IsRepair (edit_in p) p.recording repair
    repair_found repair is recording left =
        subst (λ x. IsRepair (edit_in x) x.recording repair) e
        (is_repair q overlay lines keeps w ended_in (is_in is) repair recording left)

-- the same lines are edited alike
pub repair_same : (a : EditMap) (edits : List Edit) (r q : RecordingValue) (repair : Repair)
    → ((n : ℕ) → finmap.get a n ≡ edit_of edits n) → r ≡ q
    → (IsRecordingOf (script_in r) r → IsRepair (finmap.get a) r repair)
    → IsRecordingOf (script_in q) q → IsRepair (edit_of edits) q repair
repair_same a edits r q repair same e h is =
    subst (λ (x : ℕ → Option Edit). IsRepair x q repair) (λ i n. same n i)
    (subst (λ (x : RecordingValue). IsRepair (finmap.get a) x repair) e
    (h (subst (λ (x : RecordingValue). IsRecordingOf (script_in x) x) (sym e) is)))

pub settled_same : (a : EditMap) (edits : List Edit) (r q : RecordingValue) (steps : List Step) (repair : Repair)
    → ((n : ℕ) → finmap.get a n ≡ edit_of edits n) → r ≡ q → IsSettled (finmap.get a) r steps repair
    → AreTakenIfMet (finmap.get a) r.lines steps r.first r.first → AreSettled (edit_of edits) q repair
settled_same a edits r q steps repair same e h met =
    subst (λ (x : ℕ → Option Edit). AreSettled x q repair) (λ i n. same n i)
    (subst (λ (x : RecordingValue). AreSettled (finmap.get a) x repair) e (steps, h, met))
