-- The progress of a repair: at its start, and with one more line settled.
use Rattle.std.proofs.Common.{◌≡◌, ◌∙◌, ℕ, Bool, Bor, true, false, List, [], ◌∷◌, ◌++◌, length, not, Option, None}
use Rattle.std.proofs.Common.{Some, refl, sym, ap, subst}
use Rattle.std.proofs.Common.{IfOk, IsTrue, MatchBool, Ok, Err, Result, ◌↔◌}
use Rattle.std.proofs.lemmas.Bool.{false≢true}
use Rattle.std.specs.FinMap as finmap
use Rattle.std.specs.Option.{IsSome, is_some, option_copied}
use Rattle.retro_tree.specs.Cell.{value}
use Rattle.retro_tree.specs.Exact.{IsDifference, IsExact}
use Rattle.retro_tree.specs.Commit.{committed}
use Rattle.retro_tree.specs.Notes.{Holds, after}
use Rattle.retro_tree.specs.Overlay.{OverlayMap}
use Rattle.retro_tree.specs.State.{SameSessions}
use Rattle.retro_tree.specs.declared.note.Note.{Note}
use Rattle.retro_tree.specs.declared.overlay_entry.OverlayEntry.{OverlayEntry}
use Rattle.retro_tree.specs.declared.state.State.{State}
use Rattle.retro_tree.proofs.ExactOverlays.{exact_state}
use Rattle.retro_shell.specs.Runs.{RunValue}
use Rattle.retro_keep.specs.Recording.{IsWellFormed, RecordingValue, are_own, is_own_line}
use Rattle.retro_redo.specs.Editing.{AreLines, EditMap}
use Rattle.retro_redo.specs.inner.Keeping.{Keeps}
use Rattle.retro_redo.specs.Moments.{IsMet, IsMetBy, IsUnmetBy, Moment, new_text, text_now}
use Rattle.retro_redo.specs.Progress.{AreLinesBy, IsNewRunOf, IsRunTaken, MayStep, ProgressValue, chosen, edit_in}
use Rattle.retro_redo.specs.Progress.{next_line, recorded_after, recorded_now, repaired_after, repaired_now}
use Rattle.retro_redo.specs.Progress.{settled_now, verdict_of}
use Rattle.retro_redo.specs.declared.step.Step.{Step}
use Rattle.retro_redo.specs.declared.step.Step.TheVariants.{Cancel, Keep, Take}
use Rattle.retro_redo.specs.declared.verdict.SettledLine.{SettledLine}
use Rattle.retro_redo.proofs.EditCases.{unmet_not_met}
use Rattle.retro_redo.proofs.Positions.{Line, lines_more, moment, recorded_more, recorded_none}
use Rattle.retro_redo.proofs.Positions.{repaired_more}
use Rattle.retro_redo.proofs.Positions.{repaired_none, settled_more, settled_none, settles_more, settles_none}
use Rattle.retro_redo.proofs.Sessions.{all_get, own_notes_keep_sessions, session_get}

-- ---- no line settled

pub keeps_new : (r : RecordingValue) (edits : EditMap) (overlay : OverlayMap) → AreLines edits r
    → overlay ≡ finmap.empty → Keeps (record { recording = r; edits = edits; choices = [] }) overlay []
keeps_new r edits overlay known e = record {
  settles = settles_none (finmap.get edits) r.lines r.first r.first;
  exact = λ c.
      subst (λ (o : Option OverlayEntry). IsDifference o (value c (recorded_after r.lines [] r.first))
      (value c (repaired_after r.lines [] r.first)))
      (sym (ap (λ (o : OverlayMap). finmap.get o c) e ∙ finmap.get-empty _ c))
      (ap (value c) (recorded_none r.lines r.first ∙ sym (repaired_none r.lines r.first)));
  lines_are = subst (λ ms. AreLinesBy (finmap.get edits) ms [] []) (sym (settled_none r.lines r.first r.first)) refl;
  recorded_sessions = λ k. ap (λ (s : State). finmap.contains_key s.sessions k) (recorded_none r.lines r.first);
  repaired_sessions = λ k. ap (λ (s : State). finmap.contains_key s.sessions k) (repaired_none r.lines r.first);
  known = known;
}

-- ---- one line more

-- the progress with one more choice
abbrev pub more : ProgressValue → Step → ProgressValue
more p step = record { recording = p.recording; edits = p.edits; choices = p.choices ++ step ∷ [] }

-- what a step leaves of the next line, by whether the line is met
abbrev pub line_by : Line → Step → Bool → SettledLine
line_by l step met = record { number = l.0; verdict = verdict_of step; is_met = met }

-- the next line in the states before it
abbrev next_moment : ProgressValue → Line → Moment
next_moment p l = moment l (recorded_now p) (repaired_now p)

-- whether the next line is met
abbrev pub IsMetNow : ProgressValue → Line → Bool → Type 0
IsMetNow p l met = MatchBool met (IsMet (edit_in p) (next_moment p l)) (¬ (IsMet (edit_in p) (next_moment p l)))

chosen_own : (p : ProgressValue) (l : Line) (step : Step) (s t : State) → are_own l.1.sid l.1.notes ≡ true
    → MayStep (edit_in p) s t l step → IsRunTaken step
    → finmap.contains_key t.sessions l.1.sid ≡ true → SameSessions (after (chosen step l.1) t) t
chosen_own p l Cancel s t own may run has = λ k. refl
chosen_own p l Keep s t own may run has = own_notes_keep_sessions l.1.sid l.1.notes t own has
chosen_own p l (Take taken) s t own may run has =
    own_notes_keep_sessions taken.sid taken.notes t run.own (ap (finmap.contains_key t.sessions) may.1.0 ∙ has)

pub keeps_more : (p : ProgressValue) (overlay new : OverlayMap) (lines : List SettledLine) (l : Line) (step : Step)
    (met : Bool) → Keeps p overlay lines → IsWellFormed p.recording → next_line p ≡ Some l
    → MayStep (edit_in p) (recorded_now p) (repaired_now p) l step → IsRunTaken step
    → IsExact new (after l.1.notes (recorded_now p)) (after (chosen step l.1) (repaired_now p))
    → IsMetNow p l met → Keeps (more p step) new (lines ++ line_by l step met ∷ [])
keeps_more p overlay new left l step met keeps well next may run exact is_met =
    let lines = p.recording.lines in
    let first = p.recording.first in
    let recorded = recorded_more lines p.choices l step first next in
    let repaired = repaired_more lines p.choices l step first next in
    let has = session_get first lines (length p.choices) l well.known next in
    let own : are_own l.1.sid l.1.notes ≡ true = all_get is_own_line lines (length p.choices) l well.own next in
    record {
      settles = settles_more (edit_in p) lines p.choices l step first first next keeps.settles may run;
      exact = subst (λ s. IsExact new s (repaired_now (more p step))) (sym recorded)
          (subst (λ t. IsExact new (after l.1.notes (recorded_now p)) t) (sym repaired) exact);
      lines_are = subst (λ ms. AreLinesBy (edit_in p) ms (p.choices ++ step ∷ []) (left ++ line_by l step met ∷ []))
          (sym (settled_more lines p.choices l step first first next))
          (lines_more (edit_in p) (settled_now p) p.choices left (next_moment p l) step (line_by l step met)
          keeps.lines_are (refl, refl, is_met));
      recorded_sessions = λ k. ap (λ (s : State). finmap.contains_key s.sessions k) recorded
          ∙ own_notes_keep_sessions l.1.sid l.1.notes (recorded_now p) own (keeps.recorded_sessions l.1.sid ∙ has) k
          ∙ keeps.recorded_sessions k;
      repaired_sessions = λ k. ap (λ (s : State). finmap.contains_key s.sessions k) repaired
          ∙ chosen_own p l step (recorded_now p) (repaired_now p) own may run (keeps.repaired_sessions l.1.sid ∙ has) k
          ∙ keeps.repaired_sessions k;
      known = keeps.known;
    }

-- the recorded and the repaired state have the same sessions
pub keeps_same_sessions : (p : ProgressValue) (overlay : OverlayMap) (lines : List SettledLine) → Keeps p overlay lines
    → SameSessions (recorded_now p) (repaired_now p)
keeps_same_sessions p overlay lines keeps k = keeps.recorded_sessions k ∙ sym (keeps.repaired_sessions k)

-- ---- goals of the code, where q is the progress as its fields are, and p as contracts see it

pub repaired_is : (p q : ProgressValue) (overlay : OverlayMap) (lines : List SettledLine) → q ≡ p → Keeps q overlay lines
    → committed overlay (recorded_now p) ≡ repaired_now p
repaired_is p q overlay lines e keeps =
    let kept = subst (λ x. Keeps x overlay lines) e keeps in
    exact_state overlay (recorded_now p) (repaired_now p) kept.exact (keeps_same_sessions p overlay lines kept)

pub holds_of : (p q : ProgressValue) (overlay : OverlayMap) (lines : List SettledLine) {X : Type 0} (r : Result Bool X)
    (notes : List Note) (s : State) → q ≡ p → Keeps q overlay lines → s ≡ recorded_now p
    → IfOk r (λ b. (t : State) → IsExact overlay s t → SameSessions s t → IsTrue b ↔ Holds notes t)
    → IfOk r (λ b. IsTrue b ↔ Holds notes (repaired_now p))
holds_of p q overlay lines (Err x) notes s e keeps recorded h = tt
holds_of p q overlay lines (Ok b) notes s e keeps recorded h =
    let kept = subst (λ x. Keeps x overlay lines) e keeps in
    h (repaired_now p) (subst (λ x. IsExact overlay x (repaired_now p)) (sym recorded) kept.exact)
    (subst (λ x. SameSessions x (repaired_now p)) (sym recorded) (keeps_same_sessions p overlay lines kept))

pub equiv_of : (p q : ProgressValue) (overlay : OverlayMap) (lines : List SettledLine) {X : Type 0} (r : Result Bool X) (k : Line)
    (s : State) → q ≡ p → Keeps q overlay lines → s ≡ recorded_now p → next_line p ≡ Some k → edit_in p k.0 ≡ None
    → IfOk r (λ b. (t : State) → IsExact overlay s t → SameSessions s t → IsTrue b ↔ Holds k.1.notes t)
    → (l : Line) → next_line p ≡ Some l
    → IfOk r (λ b. IsTrue b ↔ ((edit_in p l.0 ≡ None) × Holds l.1.notes (repaired_now p)))
equiv_of p q overlay lines r k s e keeps recorded next none h l is =
    let both : ◌≡◌ {A = Option Line} (Some k) (Some l) = sym next ∙ is in
    let same : k ≡ l = cc in
    subst (λ (x : Line). IfOk r (λ b. IsTrue b ↔ ((edit_in p x.0 ≡ None) × Holds x.1.notes (repaired_now p)))) same
    (with_none r (holds_of p q overlay lines r k.1.notes s e keeps recorded h))
  where
    with_none : {Y : Type 0} (x : Result Bool Y) → IfOk x (λ b. IsTrue b ↔ Holds k.1.notes (repaired_now p))
        → IfOk x (λ b. IsTrue b ↔ ((edit_in p k.0 ≡ None) × Holds k.1.notes (repaired_now p)))
    with_none (Err y) g = tt
    with_none (Ok b) g = ((λ b_is. (none, g.0 b_is)), (λ both. g.1 both.1))

-- an edited line isn't kept
pub not_equiv : (p : ProgressValue) (k : Line) → next_line p ≡ Some k → is_some (edit_in p k.0) ≡ true → (l : Line)
    → next_line p ≡ Some l → IsTrue false ↔ ((edit_in p l.0 ≡ None) × Holds l.1.notes (repaired_now p))
not_equiv p k next edited l is =
    let both : ◌≡◌ {A = Option Line} (Some k) (Some l) = sym next ∙ is in
    let same : k ≡ l = cc in (
      (λ never. absurd (false≢true never)),
      (λ kept. absurd (false≢true (sym (ap is_some (ap (λ (x : Line). edit_in p x.0) same ∙ kept.0)) ∙ edited))),
    )

-- a run of the text of the next line's new runs, in its session
pub new_run_of : (p : ProgressValue) (k : Line) {X : Type 0} (r : Result RunValue X) (text : List ℕ)
    → next_line p ≡ Some k → IfOk r (λ run. run.sid ≡ k.1.sid) → IfOk r (λ run. run.text ≡ text)
    → text ≡ new_text (edit_in p) k → (l : Line) → next_line p ≡ Some l → IfOk r (IsNewRunOf (edit_in p) l)
new_run_of p k (Err x) text next sid same is l next_is = tt
new_run_of p k (Ok run) text next sid same is l next_is =
    let both : ◌≡◌ {A = Option Line} (Some k) (Some l) = sym next ∙ next_is in
    let one : k ≡ l = cc in
    subst (λ (x : Line). IsNewRunOf (edit_in p) x run) one (sid, same ∙ is)

-- the next line is cancelled if it runs no text
pub cancelled_of : (p : ProgressValue) (k : Line) (o : Option (Bor (List ℕ))) (b : Bool) → next_line p ≡ Some k
    → option_copied o ≡ text_now (edit_in p) k → is_some o ≡ not b → (l : Line) → next_line p ≡ Some l
    → MatchBool b (text_now (edit_in p) l ≡ None) (IsSome (text_now (edit_in p) l))
cancelled_of p k o b next same is l next_is =
    let both : ◌≡◌ {A = Option Line} (Some k) (Some l) = sym next ∙ next_is in
    let one : k ≡ l = cc in
    subst (λ (x : Line). MatchBool b (text_now (edit_in p) x ≡ None) (IsSome (text_now (edit_in p) x))) one
    (subst (λ (t : Option (List ℕ)). MatchBool b (t ≡ None) (IsSome t)) same (by_case o b is))
  where
    by_case : (x : Option (Bor (List ℕ))) (y : Bool) → is_some x ≡ not y
        → MatchBool y (option_copied x ≡ None) (IsSome (option_copied x))
    by_case None true f = refl
    by_case None false f = absurd (false≢true f)
    by_case (Some text) true f = absurd (false≢true (sym f))
    by_case (Some text) false f = refl

-- what is known of the next line by whether it is met
abbrev pub IsDecided : ProgressValue → Line → Bool → Type 0
IsDecided p l b =
    MatchBool b (IsMetBy (edit_in p l.0) l.1.notes (recorded_now p) (repaired_now p))
    (IsUnmetBy (edit_in p l.0) l.1.notes (recorded_now p) (repaired_now p))

-- what is decided of the next line says whether it is met
pub is_met_now : (p : ProgressValue) (l : Line) (b : Bool) → IsDecided p l b → IsMetNow p l b
is_met_now p l true decided = decided
is_met_now p l false decided = unmet_not_met (edit_in p l.0) l.1.notes (recorded_now p) (repaired_now p) decided

-- What the code knows of a step by which it settles the next line `l`: `met` says whether the line
-- is met, `s` is the recorded state before it, and `new` is the overlay after it.
pub record IsStepFor (p q : ProgressValue) (overlay new : OverlayMap) (lines : List SettledLine) (l : Line)
    (step : Step) (met : Bool) (s : State) : Type 0 where
  pub same : q ≡ p
  pub keeps : Keeps q overlay lines
  pub well : IsWellFormed p.recording
  pub next : next_line p ≡ Some l
  pub recorded : s ≡ recorded_now p
  pub may : (k : Line) → next_line p ≡ Some k
      → MayStep (edit_in p) (recorded_now p) (repaired_now p) k step
  pub run : IsRunTaken step
  pub exact : (t : State) → IsExact overlay s t → IsExact new (after l.1.notes s) (after (chosen step l.1) t)
  pub decided : IsDecided p l met

-- the progress after a step
pub steps_more : {p q : ProgressValue} {overlay new : OverlayMap} {lines : List SettledLine} {l : Line} {step : Step}
    {met : Bool} {s : State} → IsStepFor p q overlay new lines l step met s
    → (steps : List Step) (left : List SettledLine) → steps ≡ q.choices ++ step ∷ []
    → left ≡ lines ++ line_by l step met ∷ []
    → Keeps (record { recording = q.recording; edits = q.edits; choices = steps }) new left
steps_more {p} {q} {overlay} {new} {lines} {l} {step} {met} {s} is steps left pushed left_is =
    subst (λ cs. Keeps (record { recording = q.recording; edits = q.edits; choices = cs }) new left) (sym pushed)
    (subst (Keeps (more q step) new) (sym left_is)
    (subst (λ x. Keeps (more x step) new (lines ++ line_by l step met ∷ [])) (sym is.same)
    (keeps_more p overlay new lines l step met kept is.well is.next (is.may l is.next) is.run advanced
    (is_met_now p l met is.decided))))
  where
    kept : Keeps p overlay lines
    kept = subst (λ x. Keeps x overlay lines) is.same is.keeps

    advanced : IsExact new (after l.1.notes (recorded_now p)) (after (chosen step l.1) (repaired_now p))
    advanced =
        subst (λ x. IsExact new (after l.1.notes x) (after (chosen step l.1) (repaired_now p))) is.recorded
        (is.exact (repaired_now p) (subst (λ x. IsExact overlay x (repaired_now p)) (sym is.recorded) kept.exact))
