-- A skip to the next line that is edited or met, and to the end.
use Rattle.std.proofs.Common.{◌≡◌, ◌∙◌, ◌⊎◌, inl, inr, ℕ, zero, suc, ◌+◌, ◌-◌, ◌≤◌, ◌<◌, Bool, true, false, List, [], ◌∷◌}
use Rattle.std.proofs.Common.{◌++◌, length, take, drop, Option, Some, None, option_map, refl, sym, ap, arith}
use Rattle.std.proofs.Common.{nat_lt, subst}
use Rattle.std.specs.List.{AllByRecursion, slice_get}
use Rattle.std.proofs.lemmas.Bool.{ltb-false, ltb-true}
use Rattle.std.proofs.lemmas.List.{append-nil, drop-drop, length-append}
use Rattle.std.proofs.Math.Seq.{take-nil}
use Rattle.retro_tree.specs.declared.state.State.{State}
use Rattle.retro_tree.proofs.Small.{some_same}
use Rattle.retro_history.proofs.Lines.{RiseFrom, later}
use Rattle.retro_keep.specs.Recording.{IsWellFormed, number_in}
use Rattle.retro_redo.specs.Meetings.{lines_until}
use Rattle.retro_redo.specs.Moments.{Moment}
use Rattle.retro_redo.specs.Picks.{PicksBy}
use Rattle.retro_redo.specs.Progress.{ProgressValue, edit_in, next_line, next_number, recorded_now, repaired_now}
use Rattle.retro_redo.specs.Progress.{settled_now}
use Rattle.retro_redo.specs.Skipping.{AreUnmet, with_kept}
use Rattle.retro_redo.specs.declared.tally.Tally.{Tally}
use Rattle.retro_redo.proofs.Positions.{Line, not_none}
use Rattle.retro_difference.proofs.UsedLines.{above_at, all_from, from_line, no_more, rise_after, rise_from}
use Rattle.retro_rounds.specs.Jobs.{IsJob, IsUnused}
use Rattle.retro_rounds.specs.Pieces.{InPiece, Start, from_within, in_pieces}
use Rattle.retro_rounds.specs.Tally.{IsCount}
use Rattle.retro_rounds.specs.inner.Attempts.{IsAttempt, IsFrom, numbers_of}
use Rattle.retro_rounds.specs.inner.Places.{Place, after_line, after_lines}
use Rattle.retro_rounds.specs.inner.Rounds.{IsJobOf, IsOwn}
use Rattle.retro_rounds.specs.inner.Rounds.{IsTallied}
use Rattle.retro_rounds.specs.declared.attempt.Attempt.{Attempt}
use Rattle.retro_rounds.proofs.Counting.{AreCounted, Counts, same_counted}
use Rattle.retro_rounds.proofs.Gaps.{AfterGap, over_gap, unmet_agreed}
use Rattle.retro_rounds.proofs.Kept.{DifferAlike, after_kept, before_left, kept_moments, length_kept, recorded_kept}
use Rattle.retro_rounds.proofs.Kept.{recorded_left, repaired_kept, settled_kept}
use Rattle.retro_rounds.proofs.Picked.{all_front, all_right, picks_all}
use Rattle.retro_rounds.proofs.Places.{line_after_lines, lines_within}
use Rattle.retro_rounds.proofs.Underway.{IsStopped, IsUnderway}

-- `end` is the index of the first line after the current piece, `rest` has the numbers of lines of
-- the pieces after it, and `waiting` are the attempts that wait.

-- ---- a skip

-- the numbers of the attempts, in two ways in two parts: those below a number, and the others
split_same : (n : ℕ) (gone later : List ℕ) (g new : List Attempt) → numbers_of (g ++ new) ≡ gone ++ later
    → AllByRecursion (λ q. q < n) gone → AllByRecursion (λ q. n ≤ q) later → AllByRecursion (λ a. a.number < n) g
    → IsFrom n new → (numbers_of g ≡ gone) × (numbers_of new ≡ later)
split_same n [] later [] new e low high under from = (refl, e)
split_same n [] [] (a ∷ g) new e low high under from = cc
split_same n [] (q ∷ later) (a ∷ g) new e low high under from =
    let same : a.number ≡ q = cc in
    let less = under.0 in let more = high.0 in absurd (omega (arith, same, less, more))
split_same n (q ∷ gone) later [] [] e low high under from = cc
split_same n (q ∷ gone) later [] (a ∷ new) e low high under from =
    let same : a.number ≡ q = cc in
    let less = low.0 in absurd (omega (arith, same, less, from))
split_same n (q ∷ gone) later (a ∷ g) new e low high under from =
    let same : a.number ≡ q = cc in
    let rest : numbers_of (g ++ new) ≡ gone ++ later = cc in
    let more = split_same n gone later g new rest low.1 high under.1 from in
    (λ i. same i ∷ more.0 i, more.1)

length_numbers : (waiting : List Attempt) → length (numbers_of waiting) ≡ length waiting
length_numbers [] = refl
length_numbers (a ∷ waiting) = ap suc (length_numbers waiting)

-- the lines before one have lesser numbers
all_below : (low : ℕ) (lines : List Line) (n : ℕ) (l : Line) → RiseFrom low lines → slice_get lines n ≡ Some l
    → AllByRecursion (λ (x : Line). x.0 < l.0) (take n lines)
all_below low lines zero l rise at = tt
all_below low [] (suc n) l rise at = tt
all_below low (x ∷ lines) (suc n) l rise at = (
  above_at x.0 lines n l (later low x lines rise) at,
  all_below x.0 lines n l (later low x lines rise) at,
)

-- the lines from one on have its number or greater ones
all_at_least : (low : ℕ) (lines : List Line) (n : ℕ) (l : Line) → RiseFrom low lines → slice_get lines n ≡ Some l
    → AllByRecursion (λ (x : Line). l.0 ≤ x.0) (drop n lines)
all_at_least low lines n l rise at =
    subst (AllByRecursion (λ (x : Line). l.0 ≤ x.0)) (sym (from_line lines n l at))
    (omega arith, all_from l.0 l.0 (drop (suc n) lines) (omega arith) (rise_after low lines n l rise at))

get_none : (lines : List Line) (k : ℕ) → lines ≡ [] → slice_get lines k ≡ None
get_none [] zero e = refl
get_none [] (suc k) e = refl
get_none (x ∷ lines) k e = cc

get_dropped : (lines : List Line) (m n : ℕ) → slice_get (drop m lines) n ≡ slice_get lines (m + n)
get_dropped lines zero n = let e : n ≡ 0 + n = omega arith in ap (slice_get lines) e
get_dropped [] (suc m) n = get_none [] n refl ∙ sym (get_none [] (suc m + n) refl)
get_dropped (x ∷ lines) (suc m) n =
    let e : suc (m + n) ≡ suc m + n = omega arith in
    get_dropped lines m n ∙ ap (slice_get (x ∷ lines)) e

-- the next line, by its number
pub number_line : (o : Option Line) (n : ℕ) → option_map (λ (l : Line). l.0) o ≡ Some n
    → (l : Line) × (o ≡ Some l) × (l.0 ≡ n)
number_line None n e = absurd (not_none n e)
number_line (Some l) n e = (l, refl, some_same l.0 n e)

module _ (cuts : List ℕ) (p : ProgressValue) (end : ℕ) (rest : List ℕ) (waiting : List Attempt) (tally : Tally)
    (under : IsUnderway cuts p end rest waiting tally) (well : IsWellFormed p.recording) (n : ℕ)
    (unmet : AreUnmet (edit_in p) n (drop (length p.choices) p.recording.lines) (recorded_now p) (repaired_now p))
  where
    abbrev lines : List Line
    lines = drop (length p.choices) p.recording.lines

    abbrev q : ProgressValue
    q = with_kept p n

    abbrev gap : AfterGap (edit_in p) p.recording cuts (IsOwn p.recording) n lines (recorded_now p) (repaired_now p)
        (settled_now p) (end - length p.choices) under.start rest (numbers_of waiting) under.jobs tally.unused
    gap =
        over_gap (edit_in p) p.recording cuts (IsOwn p.recording) n lines (recorded_now p) (repaired_now p)
        (settled_now p) (end - length p.choices) under.start rest (numbers_of waiting) under.jobs tally.unused
        (unmet_agreed (edit_in p) n lines (recorded_now p) (repaired_now p) unmet)
        (before_left p.recording p.choices well)
        (λ own. recorded_left p.recording.lines p.choices p.recording.first own.recorded) under.picked under.counted

    settled_at : length q.choices ≡ length p.choices + n
    settled_at = length_kept p.choices n

    later_now : PicksBy number_in (IsJobOf p under.start) (lines_until end q) gap.later
    later_now =
        let less : end - length p.choices - n ≡ end - length q.choices = let at = settled_at in omega (arith, at) in
        subst (λ (x : ℕ × List Line). PicksBy number_in (IsJobOf p under.start) (take x.0 x.1) gap.later)
        (λ i. (
          less i,
          (drop-drop n (length p.choices) p.recording.lines ∙ ap (λ k. drop k p.recording.lines) (sym settled_at)) i,
        )) gap.later_are

    counted_now : AreCounted (edit_in p) cuts (IsOwn p.recording) (settled_now q) gap.left_now gap.start_now gap.rest_now
        (under.jobs + length gap.gone) (tally.unused + length gap.gone)
    counted_now =
        same_counted (edit_in p) cuts (IsOwn p.recording)
        (settled_now p ++ kept_moments n lines (recorded_now p) (repaired_now p)) (settled_now q) gap.left_now gap.left_now
        gap.start_now gap.rest_now _ _ _ _
        (sym (settled_kept p.recording.lines p.choices n p.recording.first p.recording.first)) refl refl refl gap.counted

    next_place : after_line gap.left_now gap.rest_now
        ≡ after_lines (suc (length q.choices) - end) (record { left = end - suc (length q.choices); cuts = rest })
    next_place =
        let at = settled_at in
        let within = under.within in
        let count : suc n - (end - length p.choices) ≡ suc (length q.choices) - end = omega (arith, at, within) in
        let left : end - length p.choices - suc n ≡ end - suc (length q.choices) = omega (arith, at, within) in
        ap (λ (x : Place). after_line x.left x.cuts) gap.place
        ∙ line_after_lines n (record { left = end - length p.choices; cuts = rest })
        ∙ lines_within (suc n) (end - length p.choices) rest
        ∙ (λ i. after_lines (count i) (record { left = left i; cuts = rest }))

    left_is : n ≤ end - length p.choices → gap.left_now ≡ end - length p.choices - n
    left_is le =
        let none : n - (end - length p.choices) ≡ 0 = omega (arith, le) in
        ap (λ (x : Place). x.left) (gap.place ∙ lines_within n (end - length p.choices) rest
        ∙ (λ i. after_lines (none i) (record { left = end - length p.choices - n; cuts = rest })))

    -- the attempts at lines before the next one are dropped, or all attempts are
    later_none : end ≤ length q.choices → gap.later ≡ []
    later_none over =
        let none : end - length q.choices ≡ 0 = omega (arith, over) in
        subst (λ k. PicksBy number_in (IsJobOf p under.start) (take k (drop (length q.choices) p.recording.lines)) gap.later)
        none later_now

    abbrev Mode : List Attempt → Type 0
    Mode new =
        ((length q.choices < end) × (0 < gap.left_now)
        × PicksBy number_in (IsJobOf q gap.start_now) (lines_until end q) (numbers_of new))
        ⊎ ((end ≤ length q.choices) × (new ≡ [])
        × ((gap.left_now ≡ 0) ⊎ DifferAlike gap.start_now (recorded_now q) (repaired_now q)))

    no_numbers : (new : List Attempt) → numbers_of new ≡ [] → new ≡ []
    no_numbers [] e = refl
    no_numbers (a ∷ new) e = cc

    mode_now : (new : List Attempt) → numbers_of new ≡ gap.later → Mode new
    mode_now new same = by_mode gap.mode
      where
        none : end ≤ length q.choices → new ≡ []
        none over = no_numbers new (same ∙ later_none over)

        within : length q.choices < end → n ≤ end - length p.choices → gap.start_now ≡ under.start → Mode new
        within less le start =
            let at = settled_at in
            let is = left_is le in
            inl (
              less,
              omega (arith, at, is, less),
              subst (λ (x : Start × List ℕ). PicksBy number_in (IsJobOf p x.0) (lines_until end q) x.1)
                  (λ i. (sym start i, sym same i)) later_now,
            )

        over : end ≤ length q.choices → n ≤ end - length p.choices → Mode new
        over le few =
            let at = settled_at in
            let is = left_is few in
            inr (le, none le, inl (omega (arith, at, is, le)))

        by_mode : ((n ≤ end - length p.choices) × (gap.start_now ≡ under.start))
            ⊎ ((end - length p.choices ≤ n) × ((gap.left_now ≡ 0)
            ⊎ DifferAlike gap.start_now (after_kept n lines (recorded_now p)) (after_kept n lines (repaired_now p))))
            → Mode new
        by_mode (inl h) = by_test (nat_lt (length q.choices) end) refl
          where
            by_test : (b : Bool) → nat_lt (length q.choices) end ≡ b → Mode new
            by_test true e = within (ltb-true (length q.choices) end e) h.0 h.1
            by_test false e = over (ltb-false (length q.choices) end e) h.0
        by_mode (inr h) =
            let at = settled_at in
            let le = h.0 in
            let past : end ≤ length q.choices = omega (arith, at, le) in inr (past, none past, alike h.1)
          where
            alike : (gap.left_now ≡ 0)
                ⊎ DifferAlike gap.start_now (after_kept n lines (recorded_now p)) (after_kept n lines (repaired_now p))
                → (gap.left_now ≡ 0) ⊎ DifferAlike gap.start_now (recorded_now q) (repaired_now q)
            alike (inl e) = inl e
            alike (inr d) =
                inr (subst (λ (x : State × State). DifferAlike gap.start_now x.0 x.1)
                (λ i. (
                  sym (recorded_kept p.recording.lines p.choices n p.recording.first) i,
                  sym (repaired_kept p.recording.lines p.choices n p.recording.first) i,
                )) d)

    length_later : (gone new : List Attempt) → waiting ≡ gone ++ new → length waiting ≡ length gone + length new
    length_later gone new split = ap (λ (xs : List Attempt). length xs) split ∙ length-append gone new

    -- a stop at a line
    pub stopped : (number : ℕ) (gone new : List Attempt) → next_number q ≡ Some number → waiting ≡ gone ++ new
        → AllByRecursion (λ a. a.number < number) gone → IsFrom number new
        → IsStopped cuts q end rest new (record tally { unused = tally.unused + length gone })
    stopped number gone new next split below from =
        let at = settled_at in
        let found = number_line (next_line q) number next in
        let here : slice_get lines n ≡ Some found.0 =
        get_dropped p.recording.lines (length p.choices) n ∙ ap (slice_get p.recording.lines) (sym settled_at) ∙ found.1 in
        let rise : RiseFrom 0 lines = rise_from 0 p.recording.lines (length p.choices) well.rising in
        let low : AllByRecursion (λ (l : Line). l.0 < number) (take n lines) =
        subst (λ k. AllByRecursion (λ (l : Line). l.0 < k) (take n lines)) found.2 (all_below 0 lines n found.0 rise here) in
        let high : AllByRecursion (λ (l : Line). number ≤ l.0) (drop n lines) =
        subst (λ k. AllByRecursion (λ (l : Line). k ≤ l.0) (drop n lines)) found.2 (all_at_least 0 lines n found.0 rise here) in
        let same = split_same number gap.gone gap.later gone new (ap numbers_of (sym split) ∙ gap.both) (gap.low number low)
        (picks_all number_in _ (λ k. number ≤ k) (take (end - length p.choices - n) (drop n lines)) gap.later
        (all_front _ (end - length p.choices - n) (drop n lines) high) gap.later_are) below from in
        let fewer : length gone ≡ length gap.gone =
        sym (length_numbers gone) ∙ ap (λ (ns : List ℕ). length ns) same.0 in
        let both = length_later gone new split in
        let jobs = under.jobs_are in
        let sum = under.sum in
        let few = under.few in
        let gap_few = gap.few in
        record {
          left = gap.left_now;
          start = gap.start_now;
          rest_now = gap.rest_now;
          attempts = all_right _ gone new (subst (AllByRecursion (IsAttempt (edit_in p) p.recording)) split under.attempts);
          jobs = under.jobs + length gap.gone;
          jobs_are = omega (arith, jobs, both, fewer);
          few = omega (arith, few, gap_few, at);
          sum = omega (arith, sum, both);
          cuts_are = under.cuts_are;
          counted = subst (λ k. AreCounted (edit_in p) cuts (IsOwn p.recording) (settled_now q) gap.left_now gap.start_now
              gap.rest_now (under.jobs + length gap.gone) (tally.unused + k)) (sym fewer) counted_now;
          next = next_place;
          mode = mode_now new same.1;
        }

    -- all lines are settled
    nothing_within : (left : ℕ) (start : Start) (cs : List ℕ) → from_within left start cs [] ≡ []
    nothing_within zero start cs = refl
    nothing_within (suc left) start cs = refl

    count_all : (P : InPiece → Type 0) (j : ℕ) → Counts P cuts (settled_now q) gap.left_now gap.start_now gap.rest_now j
        → IsCount P (in_pieces cuts (settled_now q)) j
    count_all P j counts =
        let sum : j + 0 ≡ j = omega arith in
        subst (λ (x : List Moment × ℕ). IsCount P (in_pieces cuts x.0) x.1)
        (λ i. (append-nil (settled_now q) i, sum i))
        (counts [] 0 (subst (λ xs. IsCount P xs 0) (sym (nothing_within gap.left_now gap.start_now gap.rest_now)) refl))

    pub finished : next_line q ≡ None → IsTallied cuts q (record tally { unused = tally.unused + length waiting })
    finished none =
        let later_is : gap.later ≡ [] =
        subst (λ ls. PicksBy number_in (IsJobOf p under.start) ls gap.later)
        (ap (take (end - length q.choices)) (no_more p.recording.lines (length q.choices) none)
        ∙ take-nil (end - length q.choices)) later_now in
        let all : length waiting ≡ length gap.gone =
        sym (length_numbers waiting) ∙ ap (λ (ns : List ℕ). length ns) (gap.both ∙ ap (λ ns. gap.gone ++ ns) later_is
        ∙ append-nil gap.gone) in
        let jobs = under.jobs_are in
        let sum = under.sum in
        let jobs_is : under.jobs + length gap.gone ≡ tally.jobs = omega (arith, jobs, all) in
        let unused_is : tally.unused + length gap.gone ≡ tally.unused + length waiting = omega (arith, all) in
        record {
          adds_up = omega (arith, sum);
          jobs_are = subst (IsCount (IsJob (edit_in p)) (in_pieces cuts (settled_now q))) jobs_is
              (count_all (IsJob (edit_in p)) (under.jobs + length gap.gone) counted_now.jobs);
          unused_are = λ own.
              subst (IsCount (IsUnused (edit_in p)) (in_pieces cuts (settled_now q))) unused_is
              (count_all (IsUnused (edit_in p)) (tally.unused + length gap.gone) (counted_now.unused own));
        }
