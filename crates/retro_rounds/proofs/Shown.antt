-- The jobs of a round, by the overlay on the recorded states.
use Rattle.std.proofs.Common.{◌≡◌, ◌∙◌, ℕ, zero, suc, ◌-◌, ◌≤◌, ◌<◌, cond, List, [], ◌∷◌}
use Rattle.std.proofs.Common.{length, drop, Option, Some, None, option_map, refl, sym, ap, arith, subst}
use Rattle.std.specs.List.{AllByRecursion, slice_get}
use Rattle.std.specs.FinMap as finmap
use Rattle.std.proofs.lemmas.Bool.{eq-eqb}
use Rattle.retro_tree.specs.Cell.{value}
use Rattle.retro_tree.specs.Exact.{IsDifference, IsExact}
use Rattle.retro_tree.specs.Notes.{Holds}
use Rattle.retro_tree.specs.Overlay.{OverlayMap, Overlays, combined_value}
use Rattle.retro_tree.specs.declared.overlay_entry.OverlayEntry.{OverlayEntry}
use Rattle.retro_tree.specs.declared.overlay_entry.OverlayEntry.TheVariants as entries
use Rattle.retro_tree.specs.declared.state.State.{State}
use Rattle.retro_tree.specs.declared.value.Value.{Value}
use Rattle.retro_tree.proofs.ExactOverlays.{exact_fits}
use Rattle.retro_tree.proofs.Fitting.{fits_overlays}
use Rattle.retro_tree.proofs.NoteLaws.{holds_where_agreed}
use Rattle.retro_tree.proofs.Small.{some_same}
use Rattle.retro_keep.specs.Recorded.{recorded_before}
use Rattle.retro_history.proofs.Lines.{RiseFrom, above, later}
use Rattle.retro_keep.specs.Recording.{IsWellFormed, noted_at, number_in}
use Rattle.retro_keep.specs.declared.noted.Noted.{Noted}
use Rattle.retro_pool.specs.Jobs.{IsWanted}
use Rattle.retro_redo.specs.Ground.{GroundValue, shown_at}
use Rattle.retro_redo.specs.Meetings.{StopsNow, lines_until}
use Rattle.retro_redo.specs.Moments.{IsStaleBy}
use Rattle.retro_redo.specs.Picks.{PicksBy}
use Rattle.retro_redo.specs.Progress.{ProgressValue, edit_in, next_line, next_number, recorded_now, repaired_now}
use Rattle.retro_redo.specs.Settling.{IsGuessOf}
use Rattle.retro_redo.proofs.Positions.{Line, not_none}
use Rattle.retro_difference.proofs.UsedLines.{apart}
use Rattle.retro_rounds.specs.Jobs.{IsShown}
use Rattle.retro_rounds.specs.Pieces.{Start}
use Rattle.retro_rounds.specs.inner.Attempts.{IsAttempt}
use Rattle.retro_rounds.specs.inner.Rounds.{IsJobNow, start_now}
use Rattle.retro_rounds.specs.declared.attempt.Attempt.{Attempt}
use Rattle.retro_rounds.proofs.ByEdits.{met_stop, stale_along, stop_met}
use Rattle.retro_rounds.proofs.Picked.{all_front, all_map, all_rest, picks_twice}

-- ---- the shown state

shown_cell : (o : Option OverlayEntry) (s t recorded shown : Value) → IsDifference o s t
    → shown ≡ combined_value o recorded → (s ≡ t → shown ≡ recorded) × ((s ≡ t → ⊥) → shown ≡ t)
shown_cell None s t recorded shown h e = ((λ same. e), (λ differ. absurd (differ h)))
shown_cell (Some (entries.Value v)) s t recorded shown h e = ((λ same. absurd (h.1 same)), (λ differ. e ∙ h.0))
shown_cell (Some (entries.Growth bytes)) s t recorded shown h e = absurd h

-- the combined state is the shown one
is_shown : (overlay : OverlayMap) (start : Start) (recorded shown : State) → IsExact overlay start.recorded start.repaired
    → Overlays overlay recorded shown → IsShown start recorded shown
is_shown overlay start recorded shown exact over = λ c.
    shown_cell (finmap.get overlay c) (value c start.recorded) (value c start.repaired) (value c recorded) (value c shown)
    (exact c) (over c)

one_shown_cell : (o : Option OverlayEntry) (s t recorded one two : Value) → IsDifference o s t
    → (s ≡ t → one ≡ recorded) × ((s ≡ t → ⊥) → one ≡ t) → (s ≡ t → two ≡ recorded) × ((s ≡ t → ⊥) → two ≡ t)
    → one ≡ two
one_shown_cell None s t recorded one two h a b = a.0 h ∙ sym (b.0 h)
one_shown_cell (Some (entries.Value v)) s t recorded one two h a b = a.1 h.1 ∙ sym (b.1 h.1)
one_shown_cell (Some (entries.Growth bytes)) s t recorded one two h a b = absurd h

-- notes that hold in one shown state hold in any
holds_shown : (overlay : OverlayMap) (start : Start) (recorded one two : State) (l : Line)
    → IsExact overlay start.recorded start.repaired → IsShown start recorded one → IsShown start recorded two
    → Holds l.1.notes one → Holds l.1.notes two
holds_shown overlay start recorded one two l exact a b =
    holds_where_agreed l.1.notes one two (λ c touched.
    one_shown_cell (finmap.get overlay c) (value c start.recorded) (value c start.repaired) (value c recorded) (value c one)
    (value c two) (exact c) (a c) (b c))

-- ---- the jobs

pub all_above : (m n : ℕ) (lines : List Line) → m ≤ n → RiseFrom n lines
    → AllByRecursion (λ (l : Line). m < l.0) lines
all_above m n [] le rise = tt
all_above m n (l ∷ lines) le rise =
    let here = above n l lines rise in
    (omega (arith, le, here), all_above m l.0 lines (omega (arith, le, here)) (later n l lines rise))

-- a line at a place is found by its number
are_noted : (low : ℕ) (lines : List Line) → RiseFrom low lines
    → AllByRecursion (λ (l : Line). noted_at l.0 lines ≡ Some l.1) lines
are_noted low [] rise = tt
are_noted low (x ∷ lines) rise = (
  ap (λ b. cond b (Some x.1) (noted_at x.0 lines)) (eq-eqb x.0 x.0 refl),
  past lines (all_above x.0 x.0 lines (omega arith) (later low x lines rise))
      (are_noted x.0 lines (later low x lines rise)),
)
  where
    past : (ls : List Line) → AllByRecursion (λ (l : Line). x.0 < l.0) ls
        → AllByRecursion (λ (l : Line). noted_at l.0 lines ≡ Some l.1) ls
        → AllByRecursion (λ (l : Line). noted_at l.0 (x ∷ lines) ≡ Some l.1) ls
    past [] h k = tt
    past (l ∷ ls) h k = (
      ap (λ b. cond b (Some x.1) (noted_at l.0 lines)) (apart x.0 l.0 h.0) ∙ k.0,
      past ls h.1 k.1,
    )

pub noted_next : (lines : List Line) (k : ℕ) (l : Line) → RiseFrom 0 lines → slice_get lines k ≡ Some l
    → noted_at l.0 lines ≡ Some l.1
noted_next lines k l rise at = one lines k (are_noted 0 lines rise) at
  where
    one : (ls : List Line) (j : ℕ) → AllByRecursion (λ (x : Line). noted_at x.0 lines ≡ Some x.1) ls
        → slice_get ls j ≡ Some l → noted_at l.0 lines ≡ Some l.1
    one [] j h e = absurd (not_none l e)
    one (x ∷ ls) zero h e =
        subst (λ (y : Line). noted_at y.0 lines ≡ Some y.1) (some_same x l e) h.0
    one (x ∷ ls) (suc j) h e = one ls j h.1 e

-- the attempt at the next line has a new run of it, or none
pub guess_next : (p : ProgressValue) (number : ℕ) (a : Attempt) (l : Line) → IsWellFormed p.recording
    → next_number p ≡ Some number → next_line p ≡ Some l → a.number ≡ number → IsAttempt (edit_in p) p.recording a
    → IsGuessOf (edit_in p) l a.run
guess_next p number a l well next here named is =
    let named_l : l.0 ≡ number = some_same l.0 number (sym (ap (option_map (λ (x : Line). x.0)) here) ∙ next) in
    let same : a.number ≡ l.0 = named ∙ sym named_l in
    subst (λ n. IsGuessOf (edit_in p) (n, l.1) a.run) same
    (is l.1 (ap (λ n. noted_at n p.recording.lines) same
    ∙ noted_next p.recording.lines (length p.choices) l well.rising here))

-- what a repair lends before the next line, with some overlay
abbrev pub ground_now : ProgressValue → OverlayMap → GroundValue
ground_now p overlay = record { recording = p.recording; edits = p.edits; overlay = overlay }

module _ (p : ProgressValue) (overlay : OverlayMap) (exact : IsExact overlay (recorded_now p) (repaired_now p)) where
  shown_is : (n : ℕ) → IsShown (start_now p) (recorded_before n p.recording) (shown_at n (ground_now p overlay))
  shown_is n =
      is_shown overlay (start_now p) (recorded_before n p.recording) (shown_at n (ground_now p overlay)) exact
      (fits_overlays overlay (recorded_before n p.recording) (exact_fits overlay (recorded_now p) (repaired_now p) exact))

  wanted_jobs : (l : Line) → noted_at l.0 p.recording.lines ≡ Some l.1
      → (StopsNow p l → IsWanted (ground_now p overlay) l.0 → IsJobNow p l)
      × (IsJobNow p l → StopsNow p l × IsWanted (ground_now p overlay) l.0)
  wanted_jobs l here = (
    λ stops wanted.
        let same : wanted.0 ≡ l.1 = some_same wanted.0 l.1 (sym wanted.1 ∙ here) in
        let stale : IsStaleBy (edit_in p l.0) l.1.notes (shown_at l.0 (ground_now p overlay)) =
        subst (λ (noted : Noted). IsStaleBy (edit_in p l.0) noted.notes (shown_at l.0 (ground_now p overlay))) same
        wanted.2 in (
          stop_met l.1.notes (edit_in p l.0) (recorded_now p) (repaired_now p) (shown_at l.0 (ground_now p overlay)) stops
              stale,
          shown_at l.0 (ground_now p overlay),
          shown_is l.0,
          stale,
        ),
    λ job. (
      met_stop l.1.notes (edit_in p l.0) (recorded_now p) (repaired_now p) job.0,
      (
        l.1,
        here,
        stale_along l.1.notes (edit_in p l.0) job.1 (shown_at l.0 (ground_now p overlay))
            (holds_shown overlay (start_now p) (recorded_before l.0 p.recording) (shown_at l.0 (ground_now p overlay))
            job.1 l exact (shown_is l.0) job.2) job.3,
      ),
    ),
  )

  pub made_jobs : (end : ℕ) (ns js : List ℕ) → IsWellFormed p.recording
      → PicksBy number_in (StopsNow p) (lines_until end p) ns → PicksBy (λ n. n) (IsWanted (ground_now p overlay)) ns js
      → PicksBy number_in (IsJobNow p) (lines_until end p) js
  made_jobs end ns js well stops wanted =
      picks_twice number_in (StopsNow p) (IsJobNow p) (IsWanted (ground_now p overlay)) (lines_until end p) ns js
      (all_front _ (end - length p.choices) (drop (length p.choices) p.recording.lines)
      (all_rest _ (length p.choices) p.recording.lines
      (all_map (λ (l : Line). noted_at l.0 p.recording.lines ≡ Some l.1) _ p.recording.lines (λ l here. wanted_jobs l here)
      (are_noted 0 p.recording.lines well.rising)))) stops wanted
