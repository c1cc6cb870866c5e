-- The numbers of the lines to settle at which a repair stops: those that are edited, and those that
-- use a cell in which the two states differ.
use Rattle.std.proofs.Common.{◌≡◌, ◌∙◌, ◌⊎◌, inl, inr, ℕ, zero, suc, ◌<◌, ◌≤◌, ◌-◌, ◌+◌, ◌==◌, Bool, true}
use Rattle.std.proofs.Common.{false, ◌||◌}
use Rattle.std.proofs.Common.{cond, nat_cmp, List, [], ◌∷◌, drop, take, length, Option, Some, refl}
use Rattle.std.proofs.Common.{sym, ap, arith, subst}
use Rattle.std.specs.List.{AllByRecursion, slice_get}
use Rattle.std.specs.List.Sorted.{IsStrictlySortedBy}
use Rattle.std.specs.FinMap as finmap
use Rattle.std.specs.Option.{is_some}
use Rattle.std.proofs.lemmas.Bool.{true≢false, eqb-true, lt-ltb}
use Rattle.retro_tree.specs.Exact.{IsExact}
use Rattle.retro_tree.specs.Overlay.{OverlayMap}
use Rattle.retro_tree.specs.declared.cell.Cell.{Cell}
use Rattle.retro_tree.specs.declared.state.State.{State}
use Rattle.retro_difference.specs.Meeting.{Met}
use Rattle.retro_tree.proofs.Small.{and_true, or_first, or_last, some_same}
use Rattle.retro_keep.specs.Edit.{is_among}
use Rattle.retro_history.specs.Index.{meets, numbers_of}
use Rattle.retro_history.proofs.Lines.{RiseFrom, above, later, numbers_of_more}
use Rattle.retro_keep.specs.Recording.{IsWellFormed, noted_at, number_in}
use Rattle.retro_difference.specs.NextUses.{KeepsUses}
use Rattle.retro_redo.specs.Editing.{AreLines, EditMap}
use Rattle.retro_redo.specs.Meetings.{StopsNow, lines_until}
use Rattle.retro_redo.specs.Picks.{PicksBy}
use Rattle.retro_difference.specs.NextUses.{AreNumbersUntil}
use Rattle.retro_redo.specs.inner.Meetings.{AddsEdited}
use Rattle.retro_redo.specs.Progress.{ProgressValue, next_line, recorded_now, repaired_now}
use Rattle.retro_difference.specs.NextUses.{Use, has_use, is_use}
use Rattle.retro_difference.proofs.Entries.{or_rest}
use Rattle.retro_difference.proofs.KeptUses.{agree, differ}
use Rattle.retro_redo.proofs.Positions.{Line}
use Rattle.retro_difference.proofs.UsedLines.{above_at, all_from, from_line}
use Rattle.retro_difference.proofs.UsedLines.{line_from, number_above, rise_after, rise_from}
use Rattle.retro_difference.proofs.Meetings.{same_numbers, picked_sorted, meets_key, key_meets, IsLineAt, picked_at}
use Rattle.retro_difference.proofs.Meetings.{at_picked, use_from, use_back, use_within, within_use, first_soon}

-- ---- lines that are edited

-- whether a repair stops at a line, by its number and by the cells of an overlay
abbrev pub stops : EditMap → OverlayMap → Line → Bool
stops edits overlay l = finmap.contains_key edits l.0 || meets (finmap.keys overlay) l

-- one of two tests that a line passes
split_at : (one two : Line → Bool) (n : ℕ) (lines : List Line) → IsLineAt (λ l. one l || two l) n lines
    → IsLineAt one n lines ⊎ IsLineAt two n lines
split_at one two n [] h = absurd h
split_at one two n (l ∷ lines) (inl h) = by_test (one l) refl
  where
    by_test : (b : Bool) → one l ≡ b → IsLineAt one n (l ∷ lines) ⊎ IsLineAt two n (l ∷ lines)
    by_test true e = inl (inl (h.0, e))
    by_test false e = inr (inl (h.0, or_rest (one l) (two l) e h.1))
split_at one two n (l ∷ lines) (inr h) = by_rest (split_at one two n lines h)
  where
    by_rest : IsLineAt one n lines ⊎ IsLineAt two n lines
        → IsLineAt one n (l ∷ lines) ⊎ IsLineAt two n (l ∷ lines)
    by_rest (inl g) = inl (inr g)
    by_rest (inr g) = inr (inr g)

-- a test of the number
named_at : (q : ℕ → Bool) (n : ℕ) (lines : List Line) → IsLineAt (λ l. q l.0) n lines → q n ≡ true
named_at q n [] h = absurd h
named_at q n (l ∷ lines) (inl h) = ap q (sym h.0) ∙ h.1
named_at q n (l ∷ lines) (inr h) = named_at q n lines h

-- a line up to another isn't above its number
at_most : (low : ℕ) (p : Line → Bool) (lines : List Line) (j n : ℕ) (d : Line) → RiseFrom low lines
    → slice_get lines j ≡ Some d → IsLineAt p n (take (suc j) lines) → n ≤ d.0
at_most low p [] j n d rise at h = absurd h
at_most low p (l ∷ lines) zero n d rise at (inl h) =
    let same = ap (λ (x : Line). x.0) (some_same l d at) in let here = h.0 in omega (arith, same, here)
at_most low p (l ∷ lines) (suc j) n d rise at (inl h) =
    let more = above_at l.0 lines j d (later low l lines rise) at in let here = h.0 in omega (arith, more, here)
at_most low p (l ∷ lines) zero n d rise at (inr h) = absurd h
at_most low p (l ∷ lines) (suc j) n d rise at (inr h) = at_most l.0 p lines j n d (later low l lines rise) at h

-- a line among some isn't below their least number
at_least : (low : ℕ) (p : Line → Bool) (lines : List Line) (m n : ℕ) → AllByRecursion (λ l. low ≤ l.0) lines
    → IsLineAt p n (take m lines) → low ≤ n
at_least low p lines zero n all h = absurd h
at_least low p [] (suc m) n all h = absurd h
at_least low p (l ∷ lines) (suc m) n all (inl h) =
    let le = all.0 in let here = h.0 in omega (arith, le, here)
at_least low p (l ∷ lines) (suc m) n all (inr h) = at_least low p lines m n all.1 h

-- a line with a number up to that of another is among those up to the other
line_within : (low : ℕ) (p : Line → Bool) (lines : List Line) (j n : ℕ) (d : Line) → RiseFrom low lines
    → slice_get lines j ≡ Some d → n ≤ d.0 → ((l : Line) → l.0 ≡ n → p l ≡ true)
    → is_some (noted_at n lines) ≡ true → IsLineAt p n (take (suc j) lines)
line_within low p [] j n d rise at le passes has = absurd (true≢false (sym has))
line_within low p (l ∷ lines) j n d rise at le passes has =
    by_test (l.0 == n) refl (λ i e more. line_within l.0 p lines i n d (later low l lines rise) e le passes more)
  where
    after_it : (i : ℕ) → slice_get (l ∷ lines) i ≡ Some d → is_some (noted_at n lines) ≡ true
        → ((i : ℕ) → slice_get lines i ≡ Some d → is_some (noted_at n lines) ≡ true
        → IsLineAt p n (take (suc i) lines))
        → IsLineAt p n (take (suc i) (l ∷ lines))
    after_it zero e more rest =
        let number : l.0 ≡ d.0 = ap (λ (x : Line). x.0) (some_same l d e) in
        let less = number_above l.0 n lines (later low l lines rise) more in
        absurd (omega (arith, less, le, number))
    after_it (suc i) e more rest = inr (rest i e more)

    by_test : (b : Bool) → (l.0 == n) ≡ b
        → ((i : ℕ) → slice_get lines i ≡ Some d → is_some (noted_at n lines) ≡ true
        → IsLineAt p n (take (suc i) lines))
        → IsLineAt p n (take (suc j) (l ∷ lines))
    by_test true e rest = inl (eqb-true l.0 n e, passes l (eqb-true l.0 n e))
    by_test false e rest =
        after_it j at (sym (ap (λ b. is_some (cond b (Some l.1) (noted_at n lines))) e) ∙ has) rest

-- The numbers that the entries and the edits give are those of the lines from a place on, up to
-- another, that are edited or use a cell with an entry in the overlay.
module _ (edits : EditMap) (overlay : OverlayMap) (lines : List Line) (k j : ℕ) (next d : Line) (uses : List Use)
    (mid numbers : List ℕ) (rise : RiseFrom 0 lines) (keeps : KeepsUses overlay (drop k lines) uses)
    (here : slice_get lines k ≡ Some next) (at : slice_get (drop k lines) j ≡ Some d)
    (known : (n : ℕ) → finmap.contains_key edits n ≡ true → is_some (noted_at n lines) ≡ true)
    (found : AreNumbersUntil d.0 overlay lines uses mid)
    (adds : AddsEdited (finmap.contains_key edits) next.0 d.0 mid numbers) where
  rising : RiseFrom 0 (drop k lines)
  rising = rise_from 0 lines k rise

  there : (n : ℕ) → is_among numbers n ≡ true
      → is_among (numbers_of (stops edits overlay) (take (suc j) (drop k lines))) n ≡ true
  there n has =
      at_picked (stops edits overlay) n (take (suc j) (drop k lines)) (by_source (adds.only n has))
    where
      used : (m : ℕ) (c : Cell) → has_use m c uses ≡ true → ((n ≡ m) ⊎ ((m < n) × (is_use n c lines ≡ true)))
          → is_use n c (drop k lines) ≡ true
      used m c has (inl e) = subst (λ x. is_use x c (drop k lines) ≡ true) (sym e) (keeps.sound m c has)
      used m c has (inr h) =
          let less = h.0 in use_from 0 lines k n m c c rise (keeps.sound m c has) (omega (arith, less)) h.1

      by_source : (is_among mid n ≡ true)
          ⊎ ((next.0 ≤ n) × (n ≤ d.0) × (finmap.contains_key edits n ≡ true))
          → IsLineAt (stops edits overlay) n (take (suc j) (drop k lines))
      by_source (inl old) =
          let u = found.only n old in
          use_within 0 (stops edits overlay) (drop k lines) j n u.2 d rising at u.0
          (λ l touched. or_last (finmap.contains_key edits l.0) _ (key_meets overlay l u.2 touched u.4))
          (used u.1 u.2 u.3 u.5)
      by_source (inr new) =
          line_within 0 (stops edits overlay) (drop k lines) j n d rising at new.1
          (λ l same. or_first (finmap.contains_key edits l.0) _ (ap (finmap.contains_key edits) same ∙ new.2))
          (line_from 0 n lines k next rise here new.0 (known n new.2))

  back : (n : ℕ) → is_among (numbers_of (stops edits overlay) (take (suc j) (drop k lines))) n ≡ true
      → is_among numbers n ≡ true
  back n has =
      by_source (split_at (λ l. finmap.contains_key edits l.0) (meets (finmap.keys overlay)) n
      (take (suc j) (drop k lines)) picked)
    where
      picked : IsLineAt (stops edits overlay) n (take (suc j) (drop k lines))
      picked = picked_at (stops edits overlay) n (take (suc j) (drop k lines)) has

      all_above : AllByRecursion (λ (x : Line). next.0 ≤ x.0) (drop k lines)
      all_above =
          subst (AllByRecursion (λ (x : Line). next.0 ≤ x.0)) (sym (from_line lines k next here))
          (omega arith, all_from next.0 next.0 (drop (suc k) lines) (omega arith) (rise_after 0 lines k next rise here))

      by_source : IsLineAt (λ l. finmap.contains_key edits l.0) n (take (suc j) (drop k lines))
          ⊎ IsLineAt (meets (finmap.keys overlay)) n (take (suc j) (drop k lines)) → is_among numbers n ≡ true
      by_source (inl edited) =
          adds.added n (at_least next.0 (stops edits overlay) (drop k lines) (suc j) n all_above picked)
          (at_most 0 (stops edits overlay) (drop k lines) j n d rising at picked)
          (named_at (finmap.contains_key edits) n (take (suc j) (drop k lines)) edited)
      by_source (inr met) =
          let w = within_use 0 overlay (drop k lines) j n d rising at met in
          let first = first_soon 0 w.1 (drop k lines) n rising w.2 in
          adds.kept n (found.all n first.0 w.1 (keeps.complete w.1 first.0 w.3 first.1) w.3 first.2 w.0
          (inr (use_back lines k n w.1 w.2)))

  front_rises : (b n : ℕ) (ls : List Line) → RiseFrom b ls → RiseFrom b (take n ls)
  front_rises b zero ls r = refl
  front_rises b (suc n) [] r = refl
  front_rises b (suc n) (l ∷ ls) r =
      and_true _ _ (lt-ltb b l.0 (above b l ls r)) (front_rises l.0 n ls (later b l ls r))

  stops_are : IsStrictlySortedBy nat_cmp numbers
      → numbers ≡ numbers_of (stops edits overlay) (take (suc j) (drop k lines))
  stops_are sorted =
      same_numbers numbers (numbers_of (stops edits overlay) (take (suc j) (drop k lines))) sorted
      (picked_sorted 0 (stops edits overlay) (take (suc j) (drop k lines))
      (front_rises 0 (suc j) (drop k lines) rising)) there back

-- ---- the end of the code

get_drop : (k j : ℕ) (lines : List Line) → slice_get (drop k lines) j ≡ slice_get lines (k + j)
get_drop zero j lines = ap (slice_get lines) (omega arith)
get_drop (suc k) j [] = no_line j (suc k + j)
  where
    no_line : (a b : ℕ) → ◌≡◌ {A = Option Line} (slice_get [] a) (slice_get [] b)
    no_line zero zero = refl
    no_line zero (suc b) = refl
    no_line (suc a) zero = refl
    no_line (suc a) (suc b) = refl
get_drop (suc k) j (l ∷ lines) =
    get_drop k j lines ∙ ap (slice_get (l ∷ lines)) (shifted k j)
  where
    shifted : (a b : ℕ) → suc (a + b) ≡ suc a + b
    shifted a b = omega arith

-- ---- the lines that they are of

picks_filtered : (P : Line → Type 0) (test : Line → Bool) (lines : List Line) → ((l : Line) → test l ≡ true → P l)
    → ((l : Line) → P l → test l ≡ true) → PicksBy number_in P lines (numbers_of test lines)
picks_filtered P test [] passed passes = refl
picks_filtered P test (l ∷ lines) passed passes =
    subst (PicksBy number_in P (l ∷ lines)) (sym (numbers_of_more test l lines))
    (by_test (test l) refl (picks_filtered P test lines passed passes))
  where
    by_test : (b : Bool) → test l ≡ b → PicksBy number_in P lines (numbers_of test lines)
        → PicksBy number_in P (l ∷ lines) (cond b (l.0 ∷ numbers_of test lines) (numbers_of test lines))
    by_test true e rest = inl (passed l e, numbers_of test lines, refl, rest)
    by_test false e rest = inr ((λ p. true≢false (sym (passes l p) ∙ e)), rest)

-- a line uses a cell with an entry in an exact overlay if it uses one in which the states differ
module _ (overlay : OverlayMap) (s t : State) (exact : IsExact overlay s t) where
  met_by_key : (l : Line) → meets (finmap.keys overlay) l ≡ true → Met l.1.notes s t
  met_by_key l h = let key = meets_key overlay l h in (key.0, key.1, differ overlay s t exact key.0 key.2)

  key_of_met : (l : Line) → Met l.1.notes s t → meets (finmap.keys overlay) l ≡ true
  key_of_met l m = key_meets overlay l m.0 m.1 (by_test (finmap.contains_key overlay m.0) refl)
    where
      by_test : (b : Bool) → finmap.contains_key overlay m.0 ≡ b → finmap.contains_key overlay m.0 ≡ true
      by_test true e = e
      by_test false e = absurd (m.2 (agree overlay s t exact m.0 e))

-- the test decides at which lines a repair stops
stop_by_test : (p : ProgressValue) (overlay : OverlayMap) → IsExact overlay (recorded_now p) (repaired_now p)
    → (l : Line) → stops p.edits overlay l ≡ true → StopsNow p l
stop_by_test p overlay exact l h = by_test (finmap.contains_key p.edits l.0) refl
  where
    by_test : (b : Bool) → finmap.contains_key p.edits l.0 ≡ b → StopsNow p l
    by_test true e = inl e
    by_test false e = inr (met_by_key overlay (recorded_now p) (repaired_now p) exact l (or_rest _ _ e h))

test_of_stop : (p : ProgressValue) (overlay : OverlayMap) → IsExact overlay (recorded_now p) (repaired_now p)
    → (l : Line) → StopsNow p l → stops p.edits overlay l ≡ true
test_of_stop p overlay exact l (inl edited) = or_first (finmap.contains_key p.edits l.0) _ edited
test_of_stop p overlay exact l (inr met) =
    or_last (finmap.contains_key p.edits l.0) _ (key_of_met overlay (recorded_now p) (repaired_now p) exact l met)

pub stops_picked : (p : ProgressValue) (overlay : OverlayMap) (uses : List Use) (mid numbers : List ℕ) (end : ℕ)
    (next d : Line) → IsExact overlay (recorded_now p) (repaired_now p)
    → KeepsUses overlay (drop (length p.choices) p.recording.lines) uses → AreLines p.edits p.recording
    → IsWellFormed p.recording → length p.choices < end → next_line p ≡ Some next
    → slice_get p.recording.lines (end - 1) ≡ Some d → IsStrictlySortedBy nat_cmp numbers
    → AreNumbersUntil d.0 overlay p.recording.lines uses mid
    → AddsEdited (finmap.contains_key p.edits) next.0 d.0 mid numbers
    → PicksBy number_in (StopsNow p) (lines_until end p) numbers
stops_picked p overlay uses mid numbers end next d exact keeps_uses known well less here at sorted found adds =
    let k = length p.choices in
    let j = end - suc (length p.choices) in
    let place : k + j ≡ end - 1 = omega (arith, less) in
    let count : suc j ≡ end - k = omega (arith, less) in
    let at_piece = get_drop k j p.recording.lines ∙ ap (slice_get p.recording.lines) place ∙ at in
    let numbers_are : numbers ≡ numbers_of (stops p.edits overlay) (lines_until end p) =
    stops_are p.edits overlay p.recording.lines k j next d uses mid numbers well.rising keeps_uses here at_piece known
    found adds sorted
    ∙ ap (λ n. numbers_of (stops p.edits overlay) (take n (drop k p.recording.lines))) count in
    subst (PicksBy number_in (StopsNow p) (lines_until end p)) (sym numbers_are)
    (picks_filtered (StopsNow p) (stops p.edits overlay) (lines_until end p) (stop_by_test p overlay exact)
    (test_of_stop p overlay exact))

-- no line is left before an index up to which all are settled
pub none_picked : (p : ProgressValue) (end : ℕ) (numbers : List ℕ) → end ≤ length p.choices → numbers ≡ []
    → PicksBy number_in (StopsNow p) (lines_until end p) numbers
none_picked p end numbers le e =
    subst (λ n. PicksBy number_in (StopsNow p) (take n (drop (length p.choices) p.recording.lines)) numbers)
    (none end (length p.choices) le) e
  where
    none : (a b : ℕ) → a ≤ b → 0 ≡ a - b
    none a b h = omega (arith, h)
