-- The next line is in the current piece, or a round begins at it.
use Rattle.std.proofs.Common.{◌≡◌, ◌∙◌, ◌⊎◌, inl, inr, ℕ, zero, suc, ◌+◌, ◌-◌, ◌≤◌, ◌<◌, List, [], ◌∷◌}
use Rattle.std.proofs.Common.{length, refl, sym, ap, arith}
use Rattle.std.proofs.Common.{subst}
use Rattle.std.specs.List.{AllByRecursion}
use Rattle.retro_keep.specs.Recording.{number_in}
use Rattle.retro_redo.specs.Meetings.{lines_until}
use Rattle.retro_redo.specs.Picks.{PicksBy}
use Rattle.retro_redo.specs.Progress.{ProgressValue, edit_in, recorded_now, repaired_now}
use Rattle.retro_redo.specs.Progress.{settled_now}
use Rattle.retro_redo.specs.declared.tally.Tally.{Tally}
use Rattle.retro_redo.proofs.Positions.{Line}
use Rattle.retro_rounds.specs.Pieces.{Start}
use Rattle.retro_rounds.specs.Tally.{spent}
use Rattle.retro_rounds.specs.inner.Attempts.{numbers_of}
use Rattle.retro_rounds.specs.inner.Places.{after_lines}
use Rattle.retro_rounds.specs.inner.Rounds.{IsAdvanced, IsBegun, IsJobNow, IsJobOf, IsOwn}
use Rattle.retro_rounds.specs.declared.attempt.Attempt.{Attempt}
use Rattle.retro_rounds.specs.declared.rounds.Rounds.{Rounds}
use Rattle.retro_rounds.proofs.ByEdits.{met_along}
use Rattle.retro_rounds.proofs.Counting.{AreCounted}
use Rattle.retro_rounds.proofs.Kept.{DifferAlike}
use Rattle.retro_rounds.proofs.Picked.{picks_same}
use Rattle.retro_rounds.proofs.Underway.{IsReady, IsStopped, start_next}

-- `end` is the index of the first line after the current piece, `rest` has the numbers of lines of
-- the pieces after it, and `waiting` are the attempts that wait.

alike_jobs : (p : ProgressValue) (start : Start) (l : Line) → DifferAlike start (recorded_now p) (repaired_now p)
    → (IsJobNow p l → IsJobOf p start l) × (IsJobOf p start l → IsJobNow p l)
alike_jobs p start l alike = (
  λ job. (
    met_along l.1.notes (edit_in p l.0) (recorded_now p) (repaired_now p) start.recorded start.repaired
        (λ met. (met.0, met.1, λ e. met.2 ((alike met.0).0 e))) job.0,
    job.1,
    λ c. (
      λ e. (job.2 c).0 ((alike c).0 e),
      λ d. (job.2 c).1 (λ e. d ((alike c).1 e)) ∙ sym ((alike c).2 d),
    ),
    job.3,
  ),
  λ job. (
    met_along l.1.notes (edit_in p l.0) start.recorded start.repaired (recorded_now p) (repaired_now p)
        (λ met. (met.0, met.1, λ e. met.2 ((alike met.0).1 e))) job.0,
    job.1,
    λ c. (
      λ e. (job.2 c).0 ((alike c).1 e),
      λ d. (job.2 c).1 (λ e. d ((alike c).0 e)) ∙ (alike c).2 (λ e. d ((alike c).0 e)),
    ),
    job.3,
  ),
)

all_lines : (P : Line → Type 0) → ((l : Line) → P l) → (lines : List Line) → AllByRecursion P lines
all_lines P f [] = tt
all_lines P f (l ∷ lines) = (f l, all_lines P f lines)

jobs_next : (p : ProgressValue) (left : ℕ) (start : Start) (lines : List Line) (ns : List ℕ)
    → (left ≡ 0) ⊎ DifferAlike start (recorded_now p) (repaired_now p) → PicksBy number_in (IsJobNow p) lines ns
    → PicksBy number_in (IsJobOf p (start_next left start p)) lines ns
jobs_next p zero start lines ns h picked = picked
jobs_next p (suc left) start lines ns (inl e) picked = absurd (omega (arith, e))
jobs_next p (suc left) start lines ns (inr alike) picked =
    picks_same number_in (IsJobNow p) (IsJobOf p start) lines ns
    (all_lines _ (λ l. alike_jobs p start l alike) lines) picked

goes_on : (cuts : List ℕ) (p : ProgressValue) (end : ℕ) (rest : List ℕ) (waiting : List Attempt) (tally : Tally)
    → IsStopped cuts p end rest waiting tally → length p.choices < end → IsReady cuts p end rest waiting tally
goes_on cuts p end rest waiting tally stop less = by_mode stop.mode
  where
    start_there : (left : ℕ) → 0 < left → (start : Start) → start ≡ start_next left start p
    start_there zero h start = absurd (omega (arith, h))
    start_there (suc left) h start = refl

    by_mode : ((length p.choices < end) × (0 < stop.left)
        × PicksBy number_in (IsJobOf p stop.start) (lines_until end p) (numbers_of waiting))
        ⊎ ((end ≤ length p.choices) × (waiting ≡ [])
        × ((stop.left ≡ 0) ⊎ DifferAlike stop.start (recorded_now p) (repaired_now p)))
        → IsReady cuts p end rest waiting tally
    by_mode (inr h) = let le = h.0 in absurd (omega (arith, le, less))
    by_mode (inl h) =
        let no_lines : suc (length p.choices) - end ≡ 0 = omega (arith, less) in
        record {
          left = stop.left;
          start = stop.start;
          rest_now = stop.rest_now;
          attempts = stop.attempts;
          jobs = stop.jobs;
          jobs_are = stop.jobs_are;
          few = stop.few;
          sum = stop.sum;
          cuts_are = stop.cuts_are;
          counted = stop.counted;
          within = less;
          next = stop.next
              ∙ ap (λ k. after_lines k (record { left = end - suc (length p.choices); cuts = rest })) no_lines;
          picked = subst (λ s. PicksBy number_in (IsJobOf p s) (lines_until end p) (numbers_of waiting))
              (start_there stop.left h.1 stop.start) h.2;
        }

begins : (cuts : List ℕ) (p : ProgressValue) (old new : Rounds)
    → IsStopped cuts p old.pieces.end old.pieces.cuts.now old.attempts.queue.items old.tally
    → old.pieces.end ≤ length p.choices → IsBegun p old new
    → IsReady cuts p new.pieces.end new.pieces.cuts.now new.attempts.queue.items new.tally
begins cuts p old new stop over begun = by_mode stop.mode
  where
    by_mode : ((length p.choices < old.pieces.end) × (0 < stop.left)
        × PicksBy number_in (IsJobOf p stop.start) (lines_until old.pieces.end p) (numbers_of old.attempts.queue.items))
        ⊎ ((old.pieces.end ≤ length p.choices) × (old.attempts.queue.items ≡ [])
        × ((stop.left ≡ 0) ⊎ DifferAlike stop.start (recorded_now p) (repaired_now p)))
        → IsReady cuts p new.pieces.end new.pieces.cuts.now new.attempts.queue.items new.tally
    by_mode (inl h) = let less = h.0 in absurd (omega (arith, less, over))
    by_mode (inr h) =
        let none : length old.attempts.queue.items ≡ 0 = ap (λ (waiting : List Attempt). length waiting) h.1 in
        let made : new.tally.jobs ≡ old.tally.jobs + length new.attempts.queue.items =
        ap (λ (t : Tally). t.jobs) begun.tally in
        let unspent : spent new.tally ≡ spent old.tally = ap spent begun.tally in
        let jobs = stop.jobs_are in
        let sum = stop.sum in
        record {
          left = stop.left;
          start = stop.start;
          rest_now = stop.rest_now;
          attempts = begun.attempts;
          jobs = stop.jobs;
          jobs_are = omega (arith, made, jobs, none);
          few = stop.few;
          sum = omega (arith, made, sum, none, unspent);
          cuts_are = begun.cuts;
          counted = subst (AreCounted (edit_in p) cuts (IsOwn p.recording) (settled_now p) stop.left stop.start
              stop.rest_now stop.jobs) (sym (ap (λ (t : Tally). t.unused) begun.tally)) stop.counted;
          within = begun.within;
          next = stop.next ∙ begun.place;
          picked = jobs_next p stop.left stop.start (lines_until new.pieces.end p) (numbers_of new.attempts.queue.items)
              h.2 begun.jobs;
        }

pub ready : (cuts : List ℕ) (p : ProgressValue) (old new : Rounds)
    → IsStopped cuts p old.pieces.end old.pieces.cuts.now old.attempts.queue.items old.tally → IsAdvanced p old new
    → IsReady cuts p new.pieces.end new.pieces.cuts.now new.attempts.queue.items new.tally
ready cuts p old new stop (inl h) =
    subst (λ (x : Rounds). IsReady cuts p x.pieces.end x.pieces.cuts.now x.attempts.queue.items x.tally) (sym h.1)
    (goes_on cuts p old.pieces.end old.pieces.cuts.now old.attempts.queue.items old.tally stop h.0)
ready cuts p old new stop (inr h) = begins cuts p old new stop h.0 h.1
