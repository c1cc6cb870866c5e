-- The notes of a line that a repair runs again don't hold before it in the repaired recording.
use Rattle.std.proofs.Common.{◌≡◌, ◌∙◌, ℕ, ◌<◌, ◌≤◌, ◌==◌, Bool, true, false, List, [], ◌∷◌, ◌++◌, map, refl, sym, ap}
use Rattle.std.proofs.Common.{Option, Some, None, nat_lt, suc, subst, arith}
use Rattle.std.specs.Bool.{if◌then◌else◌}
use Rattle.std.proofs.lemmas.Bool.{eqb-true, lt-ltb, true≢false}
use Rattle.retro_tree.specs.Notes.{after, Holds}
use Rattle.retro_tree.specs.declared.state.State.{State}
use Rattle.retro_tree.proofs.Small.{none_some}
use Rattle.retro_shell.specs.Line.{line}
use Rattle.retro_keep.specs.Edit.{edited, line_run, text_run}
use Rattle.retro_keep.specs.Recorded.{lines_below, recorded_before}
use Rattle.retro_keep.specs.Recording.{AllRecorded, IsWellFormed, RecordingValue, last_state}
use Rattle.retro_keep.specs.Recording.{noted_at, script_line}
use Rattle.retro_keep.specs.declared.edit.Edit.{Edit}
use Rattle.retro_keep.specs.declared.noted.Noted.{Noted}
use Rattle.retro_keep.specs.declared.script.ScriptLine.{ScriptLine}
use Rattle.retro_history.proofs.Chains.{Lines, Rise, above, later, not_below}
use Rattle.retro_redo.specs.Moments.{AreSettledLines, IsStaleBy, IsVerdict, Moment, moments, state_of_run}
use Rattle.retro_redo.specs.Repair.{IsRepair}
use Rattle.retro_redo.specs.declared.repair.Repair.{Repair}
use Rattle.retro_redo.specs.declared.verdict.SettledLine.{SettledLine}
use Rattle.retro_redo.specs.declared.verdict.Verdict.TheVariants.{Redone}
use Rattle.retro_redo.proofs.Verdicts.{pair_in}
use Rattle.casebook_cause.specs.Cause.{verdict_at, verdict_on}

-- a line with the states before it in the two runs
abbrev moment : ℕ × Noted → State → State → Moment
moment l s t = record { number = l.0; noted = l.1; recorded = s; repaired = t }

-- ---- the lines of a repaired recording

-- the lines as they are edited, with notes
abbrev pub AreEdited : (ℕ → Option Edit) → Lines → Lines → Type 0
AreEdited edit lines now = map script_line now ≡ edited edit (map script_line lines)

-- the first of the edited lines, if the first line runs a text
pub first_edited : (k l : ℕ × Noted) (text : List ℕ) (ks : Lines) (more : List ScriptLine)
    → map script_line (k ∷ ks) ≡ line_run (script_line l) (Some text) ++ more
    → script_line k ≡ record { number = l.0; sid = l.1.sid; text = text }
first_edited k l text ks more e = cc

-- No edited line is below a number if no line is: for a line that isn't below it, and for lines
-- that come after such a line.
none_at : (edit : ℕ → Option Edit) (n : ℕ) (l : ℕ × Noted) (lines now : Lines) → n ≤ l.0
    → ((ks : Lines) → AreEdited edit lines ks → lines_below n ks ≡ []) → AreEdited edit (l ∷ lines) now
    → lines_below n now ≡ []
none_at edit n l lines now h rest are = go (text_run (edit l.0) l.1.text) now are
  where
    go : (o : Option (List ℕ)) (ks : Lines)
        → map script_line ks ≡ line_run (script_line l) o ++ edited edit (map script_line lines)
        → lines_below n ks ≡ []
    go None ks e = rest ks e
    go (Some text) [] e = cc
    go (Some text) (k ∷ ks) e =
        let number : k.0 ≡ l.0 = ap (λ s. s.number) (first_edited k l text ks _ e) in
        let past : nat_lt k.0 n ≡ false = not_below k.0 n (omega (arith, number, h)) in
        ap (λ (b : Bool). if b then k ∷ lines_below n ks else lines_below n ks) past ∙ rest ks cc

none_now : (edit : ℕ → Option Edit) (n low : ℕ) (lines now : Lines) → n ≤ suc low → Rise low lines
    → AreEdited edit lines now → lines_below n now ≡ []
none_now edit n low [] [] h rise are = refl
none_now edit n low [] (k ∷ now) h rise are = cc
none_now edit n low (l ∷ lines) now h rise are =
    let up = above low l lines rise in
    none_at edit n l lines now (omega (arith, h, up))
    (λ ks e. none_now edit n l.0 lines ks (omega (arith, h, up)) (later low l lines rise) e) are

-- a line that is found among lines has a number above theirs
found_above : (n low : ℕ) (lines : Lines) (noted : Noted) → Rise low lines → noted_at n lines ≡ Some noted → low < n
found_above n low [] noted rise e = absurd (none_some noted e)
found_above n low (l ∷ lines) noted rise e =
    go (l.0 == n) refl e (λ f. found_above n l.0 lines noted (later low l lines rise) f)
  where
    go : (b : Bool) → (l.0 == n) ≡ b → (if b then Some l.1 else noted_at n lines) ≡ Some noted
        → (noted_at n lines ≡ Some noted → l.0 < n) → low < n
    go true here e rest = omega (arith, eqb-true l.0 n here, above low l lines rise)
    go false here e rest = omega (arith, rest e, above low l lines rise)

-- ---- a redone line

module _ (edit : ℕ → Option Edit) (n : ℕ) (noted : Noted) where
  -- what is to show of the lines from some on
  abbrev Fails : Lines → State → List SettledLine → Type 0
  Fails lines s vs = (now : Lines) (t : State) → AreEdited edit lines now → AllRecorded now t
      → AreSettledLines edit (moments edit lines s t) vs → noted_at n lines ≡ Some noted → verdict_at n (map pair_in vs) ≡ Some Redone
      → ¬ (Holds noted.notes (last_state (lines_below n now) t))

  -- the lines after a line that runs a text or none
  after_text : (l : ℕ × Noted) (lines : Lines) (s : State) (vs : List SettledLine) → Fails lines s vs → l.0 < n
      → noted_at n lines ≡ Some noted → verdict_at n (map pair_in vs) ≡ Some Redone → (o : Option (List ℕ)) (now : Lines) (t : State)
      → map script_line now ≡ line_run (script_line l) o ++ edited edit (map script_line lines) → AllRecorded now t
      → AreSettledLines edit (moments edit lines s (state_of_run l.1.sid o t)) vs
      → ¬ (Holds noted.notes (last_state (lines_below n now) t))
  after_text l lines s vs rest less found redone None now t e recorded verdicts =
      rest now t e recorded verdicts found redone
  after_text l lines s vs rest less found redone (Some text) [] t e recorded verdicts = cc
  after_text l lines s vs rest less found redone (Some text) (k ∷ ks) t e recorded verdicts = λ held.
      let first = first_edited k l text ks _ e in
      let number : k.0 ≡ l.0 = ap (λ s. s.number) first in
      let sid : l.1.sid ≡ k.1.sid = sym (ap (λ s. s.sid) first) in
      let same : text ≡ k.1.text = sym (ap (λ s. s.text) first) in
      let tail : map script_line ks ≡ edited edit (map script_line lines) = cc in
      let reached : (line l.1.sid text t).0 ≡ after k.1.notes t =
      (λ i. (line (sid i) (same i) t).0) ∙ ap (λ p. p.0) recorded.0.means in
      let below : nat_lt k.0 n ≡ true = lt-ltb k.0 n (omega (arith, number, less)) in
      rest ks (after k.1.notes t) tail recorded.1
      (subst (λ u. AreSettledLines edit (moments edit lines s u) vs) reached verdicts) found redone
      (subst (λ (b : Bool). Holds noted.notes (last_state (if b then k ∷ lines_below n ks else lines_below n ks) t))
      below held)

  redone_at : edit n ≡ None → (lines : Lines) (low : ℕ) (s : State) (vs : List SettledLine) → Rise low lines
      → Fails lines s vs
  redone_at none [] low s vs rise now t are recorded verdicts found redone = absurd (none_some noted found)
  redone_at none (l ∷ lines) low s [] rise now t are recorded verdicts found redone = absurd verdicts
  redone_at none (l ∷ lines) low s (v ∷ vs) rise now t are recorded verdicts found redone =
      by_number (l.0 == n) refl found (v.number == n) refl redone
      (redone_at none lines l.0 (line l.1.sid l.1.text s).0 vs (later low l lines rise))
    where
      apart : (l.0 == n) ≡ (v.number == n)
      apart = ap (λ k. k == n) (sym verdicts.0.0)

      by_number : (b : Bool) → (l.0 == n) ≡ b → (if b then Some l.1 else noted_at n lines) ≡ Some noted
          → (a : Bool) → (v.number == n) ≡ a → (if a then Some v.verdict else verdict_at n (map pair_in vs)) ≡ Some Redone
          → Fails lines (line l.1.sid l.1.text s).0 vs → ¬ (Holds noted.notes (last_state (lines_below n now) t))
      by_number true e is true d stale rest = λ held.
          let here : l.0 ≡ n = eqb-true l.0 n e in
          let same : l.1 ≡ noted = cc in
          let redo : v.verdict ≡ Redone = cc in
          let fails : ¬ (Holds l.1.notes t) =
          subst (λ o. IsStaleBy o l.1.notes t) (ap edit here ∙ none)
          (subst (IsVerdict edit (moment l s t)) redo verdicts.0.1) in
          let nothing : lines_below n now ≡ [] =
          none_at edit n l lines now (omega (arith, here))
          (λ ks f. none_now edit n l.0 lines ks (omega (arith, here)) (later low l lines rise) f) are in
          fails (subst (λ (x : Noted). Holds x.notes t) (sym same)
          (subst (λ ls. Holds noted.notes (last_state ls t)) nothing held))
      by_number true e is false d stale rest = absurd (true≢false (sym e ∙ apart ∙ d))
      by_number false e is true d stale rest = absurd (true≢false (sym d ∙ sym apart ∙ e))
      by_number false e is false d stale rest =
          after_text l lines (line l.1.sid l.1.text s).0 vs rest
          (found_above n l.0 lines noted (later low l lines rise) is) is stale (text_run (edit l.0) l.1.text) now t are
          recorded verdicts.1

pub redone_fails : (edit : ℕ → Option Edit) (r : RecordingValue) (repair : Repair) (n : ℕ) (noted : Noted)
    → IsWellFormed r → IsRepair edit r repair → noted_at n r.lines ≡ Some noted → edit n ≡ None
    → verdict_on n repair ≡ Some Redone → ¬ (Holds noted.notes (recorded_before n repair.recording))
unfolding recorded_before
redone_fails edit r repair n noted well repaired found none redone =
    let again = repaired.recording_is in
    redone_at edit n noted none r.lines 0 r.first repair.lines.items well.rising repair.recording.lines
    repair.recording.first again.lines again.recorded
    (subst (λ t. AreSettledLines edit (moments edit r.lines r.first t) repair.lines.items) (sym again.first)
    repaired.lines_are) found redone
