-- Recordings that begin at a later line.
use Rattle.std.proofs.Common.{◌≡◌, ◌∙◌, ℕ, zero, suc, ◌≤◌, Bool, true, false, not, ◌&&◌, List, [], ◌∷◌, ◌++◌}
use Rattle.std.proofs.Common.{map, filter, cond, nat_lt, nat_le, take, drop, length, slice_get, Some, IsTrue, refl, ap}
use Rattle.std.proofs.Common.{sym, subst, arith}
use Rattle.std.specs.List.{AllWithin, list_all}
use Rattle.std.proofs.lemmas.Bool.{le-leb, leb-true, lt-leb, lt-ltb, ltb-false, ltb-true}
use Rattle.std.proofs.lemmas.List.{take-append-drop}
use Rattle.rayon.proofs.ToStd.{filter-map}
use Rattle.retro_tree.specs.Lawful.{IsLawful}
use Rattle.retro_tree.specs.Notes.{after}
use Rattle.retro_tree.specs.declared.state.State.{State}
use Rattle.retro_tree.proofs.NoteLaws.{lawful_after}
use Rattle.retro_tree.proofs.Small.{and_true, both_true, first_true, none_some, some_same}
use Rattle.retro_keep.specs.Recorded.{lines_below, recorded_before}
use Rattle.retro_keep.specs.Recording.{AllLinesAllowed, AllRecorded, IsRecordingOf, RecordingValue, last_state}
use Rattle.retro_keep.specs.Recording.{is_line_of_kind, is_own_line, none_below, number_in, script_line, sid_in}
use Rattle.retro_keep.specs.RecordingFault.{numbers_rise}
use Rattle.retro_keep.specs.Runs.{outcome}
use Rattle.retro_keep.specs.Script.{ScriptValue, have_sessions, rises_from}
use Rattle.retro_keep.specs.Trim.{lines_from, script_below, script_from, trimmed}
use Rattle.retro_keep.specs.inner.RecordingCode.{IsKept}
use Rattle.retro_keep.specs.declared.noted.Noted.{Noted}
use Rattle.retro_keep.proofs.Recorded.{known_after, outcome_of_lines}

-- ---- a list in which the items that pass a test come first

module _ {X : Type 0} (p q : X → Bool) (other : (x : X) → q x ≡ not (p x)) where
  none_pass : (xs : List X) → AllWithin (λ x. p x ≡ false) xs 0 (length xs) → filter p xs ≡ []
  none_pass [] fail = refl
  none_pass (x ∷ xs) fail =
      rw (fail 0 x (omega arith) (omega arith))
      (none_pass xs (λ k d le lt. fail (suc k) d (omega arith) (omega (arith, lt))))

  all_others : (xs : List X) → AllWithin (λ x. p x ≡ false) xs 0 (length xs) → filter q xs ≡ xs
  all_others [] fail = refl
  all_others (x ∷ xs) fail =
      rw (other x, fail 0 x (omega arith) (omega arith))
      (ap (λ ys. x ∷ ys) (all_others xs (λ k d le lt. fail (suc k) d (omega arith) (omega (arith, lt)))))

  -- the items that pass are those before the first that doesn't
  pub passed_first : (xs : List X) (i : ℕ) → i ≤ length xs → AllWithin (λ x. p x ≡ true) xs 0 i
      → AllWithin (λ x. p x ≡ false) xs i (length xs) → take i xs ≡ filter p xs
  passed_first [] zero le pass fail = refl
  passed_first [] (suc i) le pass fail = absurd (omega (arith, le))
  passed_first (x ∷ xs) zero le pass fail = sym (none_pass (x ∷ xs) fail)
  passed_first (x ∷ xs) (suc i) le pass fail =
      rw (pass 0 x (omega arith) (omega arith))
      (ap (λ ys. x ∷ ys) (passed_first xs i (omega (arith, le))
      (λ k d low high. pass (suc k) d (omega arith) (omega (arith, high)))
      (λ k d low high. fail (suc k) d (omega (arith, low)) (omega (arith, high)))))

  -- the others are those from there on
  pub others_last : (xs : List X) (i : ℕ) → i ≤ length xs → AllWithin (λ x. p x ≡ true) xs 0 i
      → AllWithin (λ x. p x ≡ false) xs i (length xs) → drop i xs ≡ filter q xs
  others_last [] zero le pass fail = refl
  others_last [] (suc i) le pass fail = absurd (omega (arith, le))
  others_last (x ∷ xs) zero le pass fail = sym (all_others (x ∷ xs) fail)
  others_last (x ∷ xs) (suc i) le pass fail =
      rw (other x, pass 0 x (omega arith) (omega arith))
      (others_last xs i (omega (arith, le))
      (λ k d low high. pass (suc k) d (omega arith) (omega (arith, high)))
      (λ k d low high. fail (suc k) d (omega (arith, low)) (omega (arith, high))))

-- a number is at least another one if it isn't below it
pub at_least : (n m : ℕ) → nat_le n m ≡ not (nat_lt m n)
at_least n m = by_test (nat_lt m n) refl
  where
    by_test : (b : Bool) → nat_lt m n ≡ b → nat_le n m ≡ not b
    by_test true is = lt-leb n m (ltb-true m n is)
    by_test false is = le-leb n m (ltb-false m n is)

-- each item of a filtered list passes
all_kept : {X : Type 0} (p : X → Bool) (xs : List X) → list_all p (filter p xs) ≡ true
all_kept p [] = refl
all_kept {X} p (x ∷ xs) = by_test (p x) refl (all_kept p xs)
  where
    by_test : (b : Bool) → p x ≡ b → list_all p (filter p xs) ≡ true
        → list_all p (cond b (x ∷ filter p xs) (filter p xs)) ≡ true
    by_test true is rest = and_true (p x) _ is rest
    by_test false is rest = rest

-- ---- the number at which a recording begins

-- numbers that rise from a later one on
none_below_rising : (from n : ℕ) (lines : List (ℕ × Noted)) → from ≤ n → rises_from n (map number_in lines) ≡ true
    → none_below from lines ≡ true
none_below_rising from n [] le rising = refl
none_below_rising from n (l ∷ lines) le rising =
    let above = ltb-true n l.0 (first_true (nat_lt n l.0) _ rising) in
    and_true (nat_le from l.0) _ (le-leb from l.0 (omega (arith, le, above)))
    (none_below_rising from l.0 lines (omega (arith, le, above)) (both_true (nat_lt n l.0) _ rising))

first_of_rising : (from : ℕ) (l : ℕ × Noted) (lines : List (ℕ × Noted))
    → (rises_from 0 (map number_in (l ∷ lines)) && nat_le from l.0) ≡ numbers_rise from (l ∷ lines)
first_of_rising from l lines =
    by_tests (rises_from 0 (map number_in (l ∷ lines))) (nat_le from l.0) (none_below from lines)
    (λ rising at. none_below_rising from l.0 lines (leb-true from l.0 at) (both_true (nat_lt 0 l.0) _ rising))
  where
    by_tests : (rises at rest : Bool) → (rises ≡ true → at ≡ true → rest ≡ true)
        → (rises && at) ≡ (rises && (at && rest))
    by_tests false at rest h = refl
    by_tests true false rest h = refl
    by_tests true true rest h = sym (h refl refl)

-- the first line decides whether a line of rising ones is below a number
pub first_decides : (from : ℕ) (lines : List (ℕ × Noted)) (l : ℕ × Noted) → Some l ≡ slice_get lines 0
    → (rises_from 0 (map number_in lines) && nat_le from l.0) ≡ numbers_rise from lines
first_decides from [] l first = absurd (none_some l (sym first))
first_decides from (k ∷ lines) l first =
    ap (λ (d : ℕ × Noted). rises_from 0 (map number_in (k ∷ lines)) && nat_le from d.0) (some_same l k first)
    ∙ first_of_rising from k lines

-- ---- the lines from an index on

module _ (kept : List (ℕ × Noted)) where
  rest_passes : (p : ℕ × Noted → Bool) (before : List (ℕ × Noted)) → list_all p (before ++ kept) ≡ true
      → list_all p kept ≡ true
  rest_passes p [] all = all
  rest_passes p (l ∷ before) all = rest_passes p before (both_true (p l) _ all)

  rest_known : (s : State) (before : List (ℕ × Noted)) → IsTrue (have_sessions s (map sid_in (before ++ kept)))
      → IsTrue (have_sessions s (map sid_in kept))
  rest_known s [] known = known
  rest_known s (l ∷ before) known =
      rest_known s before (both_true _ (have_sessions s (map sid_in (before ++ kept))) known)

  rest_rises : (n : ℕ) (before : List (ℕ × Noted)) → IsTrue (rises_from n (map number_in (before ++ kept)))
      → IsTrue (rises_from 0 (map number_in kept))
  rest_rises n [] rising = from_0 n (map number_in kept) rising
    where
      from_0 : (n : ℕ) (numbers : List ℕ) → IsTrue (rises_from n numbers) → IsTrue (rises_from 0 numbers)
      from_0 n [] rising = refl
      from_0 n (number ∷ numbers) rising =
          let above = ltb-true n number (first_true (nat_lt n number) _ rising) in
          and_true _ _ (lt-ltb 0 number (omega (arith, above))) (both_true (nat_lt n number) _ rising)
  rest_rises n (l ∷ before) rising = rest_rises l.0 before (both_true (nat_lt n l.0) _ rising)

  -- the state after the first lines is lawful, if the changes are
  between_lawful : (s : State) (before : List (ℕ × Noted)) → IsLawful s → AllLinesAllowed (before ++ kept) s
      → IsLawful (last_state before s)
  between_lawful s [] lawful allowed = lawful
  between_lawful s (l ∷ before) lawful allowed =
      between_lawful (after l.1.notes s) before (lawful_after l.1.notes s lawful allowed.0) allowed.1

  between_known : (s : State) (before : List (ℕ × Noted)) (sids : List ℕ) → AllLinesAllowed (before ++ kept) s
      → IsTrue (have_sessions s sids) → IsTrue (have_sessions (last_state before s) sids)
  between_known s [] sids allowed known = known
  between_known s (l ∷ before) sids allowed known =
      between_known (after l.1.notes s) before sids allowed.1 (known_after l.1.notes s sids allowed.0 known)

  rest_allowed : (s : State) (before : List (ℕ × Noted)) → AllLinesAllowed (before ++ kept) s
      → AllLinesAllowed kept (last_state before s)
  rest_allowed s [] allowed = allowed
  rest_allowed s (l ∷ before) allowed = rest_allowed (after l.1.notes s) before allowed.1

  last_of_rest : (s : State) (before : List (ℕ × Noted))
      → last_state (before ++ kept) s ≡ last_state kept (last_state before s)
  last_of_rest s [] = refl
  last_of_rest s (l ∷ before) = last_of_rest (after l.1.notes s) before

  first_recorded : (s : State) (before : List (ℕ × Noted)) → AllRecorded (before ++ kept) s → AllRecorded before s
  first_recorded s [] h = tt
  first_recorded s (l ∷ before) h = (h.0, first_recorded (after l.1.notes s) before h.1)

  rest_recorded : (s : State) (before : List (ℕ × Noted)) → AllRecorded (before ++ kept) s
      → AllRecorded kept (last_state before s)
  rest_recorded s [] h = h
  rest_recorded s (l ∷ before) h = rest_recorded (after l.1.notes s) before h.1

-- ---- the trimmed recording

-- the lines of a recording are cut at an index, where those before a number end
module _ (r : RecordingValue) (number at : ℕ) (before kept : List (ℕ × Noted)) (first : State)
    (before_is : before ≡ take at r.lines) (kept_is : kept ≡ drop at r.lines)
    (below : take at r.lines ≡ lines_below number r.lines) (above : drop at r.lines ≡ lines_from number r.lines)
    (first_is : first ≡ last_state before r.first) where
  both : before ++ kept ≡ r.lines
  both = (λ i. before_is i ++ kept_is i) ∙ take-append-drop at r.lines

  -- the lines from the number on make a recording over the state that the lines before them leave
  pub rest_kept : (last : State) → IsKept r last → r.from ≤ number
      → IsKept (record { first = first; from = number; lines = kept }) last
  rest_kept last is le =
      let w = is.well_formed in
      let allowed : AllLinesAllowed (before ++ kept) r.first =
      subst (λ ls. AllLinesAllowed ls r.first) (sym both) w.allowed in
      let begins = w.begins in
      subst (λ s. IsKept (record { first = s; from = number; lines = kept }) last) (sym first_is) (record {
        well_formed = record {
          lawful = between_lawful kept r.first before w.lawful allowed;
          begins = omega (arith, le, begins);
          rising =
              rest_rises kept 0 before (subst (λ ls. IsTrue (rises_from 0 (map number_in ls))) (sym both) w.rising);
          not_before =
              subst (λ ls. IsTrue (none_below number ls)) (sym (kept_is ∙ above))
              (all_kept (λ l. nat_le number l.0) r.lines);
          known =
              between_known kept r.first before (map sid_in kept) allowed (rest_known kept r.first before
              (subst (λ ls. IsTrue (have_sessions r.first (map sid_in ls))) (sym both) w.known));
          own = rest_passes kept is_own_line before (subst (λ ls. IsTrue (list_all is_own_line ls)) (sym both) w.own);
          of_kind =
              rest_passes kept is_line_of_kind before
              (subst (λ ls. IsTrue (list_all is_line_of_kind ls)) (sym both) w.of_kind);
          allowed = rest_allowed kept r.first before allowed;
        };
        last_state =
            is.last_state ∙ ap (λ ls. last_state ls r.first) (sym both) ∙ last_of_rest kept r.first before;
      })

  pub trimmed_is : record { first = first; from = number; lines = kept } ≡ trimmed number r
  unfolding trimmed recorded_before
  trimmed_is =
      let state = first_is ∙ ap (λ ls. last_state ls r.first) (before_is ∙ below) in
      λ i. record { first = state i; from = number; lines = (kept_is ∙ above) i }

  -- of a script's recording they are a recording of the script's lines from the number on, over the
  -- state that running the lines before them gives
  pub trimmed_recording : (script : ScriptValue) → IsRecordingOf script r
      → IsRecordingOf (script_from number script) (record { first = first; from = number; lines = kept })
  unfolding script_from
  trimmed_recording script is =
      let recorded : AllRecorded (before ++ kept) r.first =
      subst (λ ls. AllRecorded ls r.first) (sym both) is.recorded in
      let same_below : map script_line before ≡ script_below number script =
      ap (map script_line) (before_is ∙ below)
      ∙ sym (filter-map (λ l. nat_lt l.number number) script_line r.lines)
      ∙ ap (filter (λ l. nat_lt l.number number)) is.lines in
      let ran = outcome_of_lines before r.first (first_recorded kept r.first before recorded) in
      record {
        first = first_is ∙ sym (ap (λ o. o.0) ran) ∙ (λ i. (outcome (same_below i) (is.first i)).0);
        lines =
            ap (map script_line) (kept_is ∙ above)
            ∙ sym (filter-map (λ l. nat_le number l.number) script_line r.lines)
            ∙ ap (filter (λ l. nat_le number l.number)) is.lines;
        recorded = subst (AllRecorded kept) (sym first_is) (rest_recorded kept r.first before recorded);
      }
