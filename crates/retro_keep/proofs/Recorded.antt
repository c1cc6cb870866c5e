-- Recordings of a script.
use Rattle.std.proofs.Common.{◌≡◌, ℕ, ◌<◌, ◌≤◌, Bool, true, List, [], ◌∷◌, ◌++◌, length, get_or, map, IsTrue, refl}
use Rattle.std.proofs.Common.{ap, sym, ◌∙◌, ◌+◌, zero, suc, drop, take, subst, arith, nat_le, nat_lt}
use Rattle.std.specs.List.{list_all}
use Rattle.std.specs.FinMap as finmap
use Rattle.std.proofs.lemmas.Bool.{le-leb, ltb-true}
use Rattle.std.proofs.lemmas.List.{drop_more, map-append, take_more}
use Rattle.retro_tree.specs.Lawful.{IsLawful}
use Rattle.retro_tree.specs.Ask.{answer}
use Rattle.retro_tree.specs.Change.{apply}
use Rattle.retro_tree.specs.Notes.{after, AllAllowed, Holds}
use Rattle.retro_tree.specs.declared.ask.Ask.{Ask}
use Rattle.retro_tree.specs.declared.ask.Ask.TheVariants as asks
use Rattle.retro_tree.specs.declared.note.Note.{Note}
use Rattle.retro_tree.specs.declared.note.Note.TheVariants.{Asked, Made}
use Rattle.retro_tree.specs.declared.state.State.{State}
use Rattle.retro_tree.proofs.KeptSessions.{notes_keep_sessions}
use Rattle.retro_tree.proofs.NoteLaws.{lawful_after}
use Rattle.retro_tree.proofs.Small.{first_true, both_true, and_true}
use Rattle.retro_shell.specs.Line.{HasSameSessions}
use Rattle.retro_shell.specs.Runs.{IsRun, RunValue}
use Rattle.retro_keep.specs.Runs.{after_line, outcome, with_output}
use Rattle.retro_keep.specs.Script.{IsScript, ScriptValue, have_sessions, number_of, rises_from, sid_of}
use Rattle.retro_keep.specs.Recording.{AllLinesAllowed, AllRecorded, IsRecorded, IsRecordingOf, IsWellFormed}
use Rattle.retro_keep.specs.Recording.{RecordingValue, answers_are_of_kind, is_line_of_kind, is_of_kind, is_own_line}
use Rattle.retro_keep.specs.Recording.{last_state, none_below, number_in, output_in, recorded_outcome, run_value}
use Rattle.retro_keep.specs.Recording.{script_line, sid_in}
use Rattle.retro_keep.specs.inner.Recorder.{HasRecorded}
use Rattle.retro_keep.specs.declared.noted.Noted.{Noted}
use Rattle.retro_keep.specs.declared.script.ScriptLine.{ScriptLine}

-- ---- what recorded lines satisfy

answer_of_kind : (a : Ask) (s : State) → is_of_kind a (answer a s) ≡ true
unfolding answer
answer_of_kind (asks.Kind p) s = refl
answer_of_kind (asks.Bytes p) s = refl
answer_of_kind (asks.Names p) s = refl
answer_of_kind (asks.CanWrite p more) s = refl
answer_of_kind (asks.User name) s = refl
answer_of_kind (asks.VarOf sid name) s = refl
answer_of_kind (asks.CwdOf sid) s = refl
answer_of_kind (asks.StatusOf sid) s = refl

-- notes that hold have answers of their queries' kinds
pub held_of_kind : (notes : List Note) (s : State) → Holds notes s → answers_are_of_kind notes ≡ true
held_of_kind [] s h = refl
held_of_kind (Asked a r ∷ notes) s h =
    and_true _ _ (ap (is_of_kind a) (sym h.0) ∙ answer_of_kind a s) (held_of_kind notes s h.1)
held_of_kind (Made c ∷ notes) s h = held_of_kind notes (apply c s) h

recorded_of_kind : (lines : List (ℕ × Noted)) (s : State) → AllRecorded lines s → list_all is_line_of_kind lines ≡ true
recorded_of_kind [] s h = refl
recorded_of_kind (l ∷ lines) s h =
    and_true (is_line_of_kind l) _ (held_of_kind l.1.notes s h.0.holds) (recorded_of_kind lines _ h.1)

recorded_own : (lines : List (ℕ × Noted)) (s : State) → AllRecorded lines s → list_all is_own_line lines ≡ true
recorded_own [] s h = refl
recorded_own (l ∷ lines) s h = and_true (is_own_line l) _ h.0.run.own (recorded_own lines _ h.1)

-- sessions that exist still exist after changes that are lawful where they are made
pub known_after : (notes : List Note) (s : State) (sids : List ℕ) → AllAllowed notes s
    → IsTrue (have_sessions s sids) → IsTrue (have_sessions (after notes s) sids)
known_after notes s sids allowed known =
    ap (λ (p : ℕ → Bool). list_all p sids) (λ i sid. notes_keep_sessions notes s allowed sid i) ∙ known

recorded_allowed : (lines : List (ℕ × Noted)) (s : State) → AllRecorded lines s → IsLawful s
    → IsTrue (have_sessions s (map sid_in lines)) → AllLinesAllowed lines s
recorded_allowed [] s h lawful known = tt
recorded_allowed (l ∷ lines) s h lawful known =
    let has = first_true (finmap.contains_key s.sessions l.1.sid) (have_sessions s (map sid_in lines)) known in
    let rest = both_true (finmap.contains_key s.sessions l.1.sid) (have_sessions s (map sid_in lines)) known in
    let allowed : AllAllowed l.1.notes s = h.0.run.certified.allowed s lawful has h.0.holds in (
      allowed,
      recorded_allowed lines (after l.1.notes s) h.1 (lawful_after l.1.notes s lawful allowed)
          (known_after l.1.notes s (map sid_in lines) allowed rest),
    )

same_numbers : (lines : List (ℕ × Noted)) → map number_in lines ≡ map number_of (map script_line lines)
same_numbers [] = refl
same_numbers (l ∷ lines) = ap (λ ns. l.0 ∷ ns) (same_numbers lines)

same_sids : (lines : List (ℕ × Noted)) → map sid_in lines ≡ map sid_of (map script_line lines)
same_sids [] = refl
same_sids (l ∷ lines) = ap (λ sids. l.1.sid ∷ sids) (same_sids lines)

-- recorded lines of a script make a recording that begins at a number that none of them is below
pub well_formed : (script : ScriptValue) (from : ℕ) (lines : List (ℕ × Noted)) → IsScript script
    → 1 ≤ from → IsTrue (none_below from lines)
    → map script_line lines ≡ script.lines → AllRecorded lines script.first
    → IsWellFormed (record { first = script.first; from = from; lines = lines })
well_formed script from lines is begins not_before same h =
    let known : IsTrue (have_sessions script.first (map sid_in lines)) =
    ap (have_sessions script.first) (same_sids lines ∙ ap (map sid_of) same) ∙ is.known in
    record {
      lawful = is.lawful;
      begins = begins;
      rising = ap (rises_from 0) (same_numbers lines ∙ ap (map number_of) same) ∙ is.rising;
      not_before = not_before;
      known = known;
      own = recorded_own lines script.first h;
      of_kind = recorded_of_kind lines script.first h;
      allowed = recorded_allowed lines script.first h is.lawful known;
    }

-- lines of a script are numbered from 1 on
above_0 : (n : ℕ) (lines : List (ℕ × Noted)) → IsTrue (rises_from n (map number_in lines))
    → IsTrue (none_below 1 lines)
above_0 n [] rising = refl
above_0 n (l ∷ lines) rising =
    let above = ltb-true n l.0 (first_true (nat_lt n l.0) _ rising) in
    and_true (nat_le 1 l.0) _ (le-leb 1 l.0 (omega (arith, above)))
    (above_0 l.0 lines (both_true (nat_lt n l.0) _ rising))

-- recorded lines of a whole script make a recording that begins at 1
pub whole_well_formed : (script : ScriptValue) (lines : List (ℕ × Noted)) → IsScript script
    → map script_line lines ≡ script.lines → AllRecorded lines script.first
    → IsWellFormed (record { first = script.first; from = 1; lines = lines })
whole_well_formed script lines is same h =
    well_formed script 1 lines is (omega arith)
    (above_0 0 lines (ap (rises_from 0) (same_numbers lines ∙ ap (map number_of) same) ∙ is.rising)) same h

-- ---- the whole run

pub outcome_of_lines : (lines : List (ℕ × Noted)) (s : State) → AllRecorded lines s
    → outcome (map script_line lines) s ≡ (last_state lines s, map output_in lines)
outcome_of_lines [] s h = refl
outcome_of_lines (l ∷ lines) s h =
    ap (λ r. after_line l.0 r (outcome (map script_line lines))) h.0.means
    ∙ ap (with_output l.0 l.1.output) (outcome_of_lines lines (after l.1.notes s) h.1)

-- the last state and the outputs of a recording of a script are those of running its lines one by
-- one
pub recorded_runs : (script : ScriptValue) (r : RecordingValue) → IsRecordingOf script r
    → outcome script.lines script.first ≡ recorded_outcome r
recorded_runs script r is =
    ap (λ ls. outcome ls script.first) (sym is.lines) ∙ ap (outcome (map script_line r.lines)) (sym is.first)
    ∙ outcome_of_lines r.lines r.first is.recorded

-- a recorder that has recorded all lines
pub finished : (script : ScriptValue) (r : RecordingValue) (lines : List (ℕ × Noted)) (state first : State)
    → r ≡ record { first = first; from = 1; lines = lines } → first ≡ script.first
    → HasRecorded script.lines script.first lines state → IsRecordingOf script r
finished script r lines state first made copied h = record {
  first = ap (λ (q : RecordingValue). q.first) made ∙ copied;
  lines = ap (λ (q : RecordingValue). map script_line q.lines) made ∙ h.lines_are;
  recorded =
      subst (λ (q : RecordingValue). AllRecorded q.lines q.first) (sym made)
      (subst (AllRecorded lines) (sym copied) h.recorded);
}

-- ---- one more line

recorded_more : (lines : List (ℕ × Noted)) (l : ℕ × Noted) (s : State) → AllRecorded lines s
    → IsRecorded l.1 (last_state lines s) → AllRecorded (lines ++ l ∷ []) s
recorded_more [] l s h one = (one, tt)
recorded_more (k ∷ lines) l s h one = (h.0, recorded_more lines l (after k.1.notes s) h.1 one)

last_state_more : (lines : List (ℕ × Noted)) (l : ℕ × Noted) (s : State)
    → last_state (lines ++ l ∷ []) s ≡ after l.1.notes (last_state lines s)
last_state_more [] l s = refl
last_state_more (k ∷ lines) l s = last_state_more lines l (after k.1.notes s)

-- a line with the notes and the output of its run
pub recorded_by_run : (run : RunValue) (noted : Noted) (s : State) → noted.sid ≡ run.sid → noted.text ≡ run.text
    → noted.notes ≡ run.notes → noted.output ≡ run.output → IsRun run → IsLawful s
    → IsTrue (finmap.contains_key s.sessions noted.sid) → Holds run.notes s → IsRecorded noted s
recorded_by_run run noted s sid text notes output is lawful has h =
    let same : run ≡ run_value noted = rw (sid, text, notes, output) refl in
    let is_noted = subst IsRun same is in
    let holds = subst (λ ns. Holds ns s) (sym notes) h in
    record { run = is_noted; holds = holds; means = is_noted.certified.means s lawful has holds }

-- a line that is recorded in the state after the others
pub has_recorded_more : (done : List ScriptLine) (l : ScriptLine) (first s next : State)
    (lines new : List (ℕ × Noted)) (noted : Noted)
    → new ≡ lines ++ (l.number, noted) ∷ [] → next ≡ after noted.notes s
    → noted.sid ≡ l.sid → noted.text ≡ l.text → IsRecorded noted s → IsTrue (finmap.contains_key s.sessions noted.sid)
    → HasRecorded done first lines s → HasRecorded (done ++ l ∷ []) first new next
has_recorded_more done l first s next lines new noted push apply sid text one has h =
    let allowed : AllAllowed noted.notes s = one.run.certified.allowed s h.lawful has one.holds in
    let same_line : script_line (l.number, noted) ≡ l = rw (sid, text) refl in
    record {
      lines_are =
          ap (map script_line) push ∙ map-append script_line lines ((l.number, noted) ∷ [])
          ∙ ap (λ ls. ls ++ script_line (l.number, noted) ∷ []) h.lines_are ∙ ap (λ k. done ++ k ∷ []) same_line;
      recorded =
          subst (λ ls. AllRecorded ls first) (sym push) (recorded_more lines (l.number, noted) first h.recorded
          (subst (IsRecorded noted) h.state_is one));
      state_is =
          apply ∙ ap (after noted.notes) h.state_is ∙ sym (last_state_more lines (l.number, noted) first)
          ∙ ap (λ ls. last_state ls first) (sym push);
      lawful = subst IsLawful (sym apply) (lawful_after noted.notes s h.lawful allowed);
      sessions = record {
        same = λ k. ap (λ (t : State). finmap.contains_key t.sessions k) apply
            ∙ notes_keep_sessions noted.notes s allowed k ∙ h.sessions.same k;
      };
    }

-- ---- a loop over the lines of a script

pub has_recorded_next : (script : ScriptValue) (i : ℕ) (d : ScriptLine) (state : State) (lines : List (ℕ × Noted))
    → i < length script.lines → d ≡ get_or script.lines i d
    → HasRecorded (take i script.lines ++ d ∷ []) script.first lines state
    → HasRecorded (take (i + 1) script.lines) script.first lines state
has_recorded_next script i d state lines lt is h =
    subst (λ done. HasRecorded done script.first lines state)
    (ap (λ k. take i script.lines ++ k ∷ []) is ∙ sym (take_more script.lines i d lt)) h

known_at : {X : Type 0} (sid_of_item : X → ℕ) (p : ℕ → Bool) (items : List X) (i : ℕ) (d : X) → i < length items
    → list_all p (map sid_of_item items) ≡ true → p (sid_of_item (get_or items i d)) ≡ true
known_at f p [] i d lt known = absurd (omega (arith, lt))
known_at f p (x ∷ items) zero d lt known = first_true (p (f x)) (list_all p (map f items)) known
known_at f p (x ∷ items) (suc i) d lt known =
    known_at f p items i d (omega arith) (both_true (p (f x)) (list_all p (map f items)) known)

-- the session of each line of a script exists in every state with the sessions of the first
pub session_at : (script : ScriptValue) (i : ℕ) (d : ScriptLine) (state : State) → IsScript script
    → i < length script.lines → d ≡ get_or script.lines i d → HasSameSessions script.first state
    → IsTrue (finmap.contains_key state.sessions d.sid)
session_at script i d state is lt here same =
    same.same d.sid ∙ ap (λ (k : ScriptLine). finmap.contains_key script.first.sessions k.sid) here
    ∙ known_at sid_of (finmap.contains_key script.first.sessions) script.lines i d lt is.known

-- ---- a loop over the lines of a recording

pub noted_session_at : (s : State) (lines : List (ℕ × Noted)) (i : ℕ) (d : ℕ × Noted) → i < length lines
    → d ≡ get_or lines i d → IsTrue (have_sessions s (map sid_in lines))
    → IsTrue (finmap.contains_key s.sessions d.1.sid)
noted_session_at s lines i d lt is known =
    ap (λ (k : ℕ × Noted). finmap.contains_key s.sessions k.1.sid) is
    ∙ known_at sid_in (finmap.contains_key s.sessions) lines i d lt known

recorded_changes : (noted : Noted) (s : State) → IsRecorded noted s → IsLawful s
    → IsTrue (finmap.contains_key s.sessions noted.sid) → AllAllowed noted.notes s
recorded_changes noted s one lawful has = one.run.certified.allowed s lawful has one.holds

-- a recorded line leaves a lawful state lawful, with the sessions of all lines
pub recorded_keeps_law : (noted : Noted) (s next : State) → IsRecorded noted s → next ≡ after noted.notes s
    → IsLawful s → IsTrue (finmap.contains_key s.sessions noted.sid) → IsLawful next
recorded_keeps_law noted s next one made lawful has =
    subst IsLawful (sym made) (lawful_after noted.notes s lawful (recorded_changes noted s one lawful has))

pub recorded_keeps_sessions : (noted : Noted) (s next : State) (sids : List ℕ) → IsRecorded noted s
    → next ≡ after noted.notes s → IsLawful s → IsTrue (finmap.contains_key s.sessions noted.sid)
    → IsTrue (have_sessions s sids) → IsTrue (have_sessions next sids)
recorded_keeps_sessions noted s next sids one made lawful has known =
    ap (λ t. have_sessions t sids) made
    ∙ known_after noted.notes s sids (recorded_changes noted s one lawful has) known

-- if the lines from an index on are recorded, all are; so it is with one line more
pub recorded_so_far : (lines : List (ℕ × Noted)) (i : ℕ) (d : ℕ × Noted) (first s next : State) → i < length lines
    → d ≡ get_or lines i d → IsRecorded d.1 s → next ≡ after d.1.notes s
    → (AllRecorded (drop i lines) s → AllRecorded lines first)
    → AllRecorded (drop (i + 1) lines) next → AllRecorded lines first
recorded_so_far lines i d first s next lt is one made so_far rest =
    let here : drop i lines ≡ d ∷ drop (i + 1) lines = drop_more lines i d lt
    ∙ ap (λ (k : ℕ × Noted). k ∷ drop (i + 1) lines) (sym is) in
    so_far (subst (λ ls. AllRecorded ls s) (sym here) (one, subst (AllRecorded (drop (i + 1) lines)) made rest))
