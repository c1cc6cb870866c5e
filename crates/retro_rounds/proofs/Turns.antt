-- A turn of the loop over the lines at which a repair stops.
use Rattle.std.proofs.Common.{◌≡◌, ◌∙◌, ◌⊎◌, inl, inr, ℕ, ◌+◌, ◌≤◌, ◌<◌, List, [], length, Some, None, sym}
use Rattle.std.proofs.Common.{ap, arith, subst}
use Rattle.retro_keep.specs.Recording.{IsWellFormed}
use Rattle.retro_redo.specs.Progress.{ProgressValue, next_line, next_number}
use Rattle.retro_redo.specs.Skipping.{IsSkip, with_kept}
use Rattle.retro_redo.specs.declared.tally.Tally.{Tally}
use Rattle.retro_redo.proofs.Before.{no_line}
use Rattle.retro_rounds.specs.inner.Rounds.{IsAdvanced, IsPassed, IsTallied}
use Rattle.retro_rounds.specs.declared.rounds.Rounds.{Rounds}
use Rattle.retro_rounds.proofs.Stops.{finished, stopped}
use Rattle.retro_rounds.proofs.Beginnings.{ready}
use Rattle.retro_rounds.proofs.Underway.{IsReady, IsStopped, IsUnderway}

-- what holds of rounds
abbrev pub AreUnderway : List ℕ → ProgressValue → Rounds → Type 0
AreUnderway cuts p rounds =
    IsUnderway cuts p rounds.pieces.end rounds.pieces.cuts.now rounds.attempts.queue.items rounds.tally

abbrev pub AreStopped : List ℕ → ProgressValue → Rounds → Type 0
AreStopped cuts p rounds =
    IsStopped cuts p rounds.pieces.end rounds.pieces.cuts.now rounds.attempts.queue.items rounds.tally

kept : (p q : ProgressValue) (skip : IsSkip p q) → q ≡ with_kept p skip.count
kept p q skip = λ i. record {
  recording = skip.recording i;
  edits = skip.edits i;
  choices = skip.choices i;
}

pub at_stop : (cuts : List ℕ) (p q : ProgressValue) (old new : Rounds) (number : ℕ) → AreUnderway cuts p old
    → IsWellFormed p.recording → IsSkip p q → next_number q ≡ Some number → IsPassed number old new
    → AreStopped cuts q new
at_stop cuts p q old new number under well skip next passed =
    let there = kept p q skip in
    let stop = stopped cuts p old.pieces.end old.pieces.cuts.now old.attempts.queue.items old.tally under well skip.count
    skip.unmet number passed.gone new.attempts.queue.items (sym (ap next_number there) ∙ next) passed.split passed.below
    passed.from in
    subst (λ (x : ProgressValue × ℕ × List ℕ × Tally). IsStopped cuts x.0 x.1 x.2 new.attempts.queue.items x.3)
    (λ i. (sym there i, sym passed.end i, sym passed.cuts i, sym passed.tally i)) stop

-- the next line is in the piece of the current round
pub at_line : (cuts : List ℕ) (p q : ProgressValue) (old passed new : Rounds) (number : ℕ) → AreUnderway cuts p old
    → IsWellFormed p.recording → IsSkip p q → next_number q ≡ Some number → IsPassed number old passed
    → IsAdvanced q passed new
    → IsReady cuts q new.pieces.end new.pieces.cuts.now new.attempts.queue.items new.tally
at_line cuts p q old passed new number under well skip next is_passed advanced =
    ready cuts q passed new (at_stop cuts p q old passed number under well skip next is_passed) advanced

-- no attempt waits if the round is over
pub none_waiting : (cuts : List ℕ) (p : ProgressValue) (rounds : Rounds) → AreStopped cuts p rounds
    → rounds.pieces.end ≤ length p.choices → rounds.attempts.queue.items ≡ []
none_waiting cuts p rounds stop over = by_mode stop.mode
  where
    by_mode : {X Y Z : Type 0} → ((length p.choices < rounds.pieces.end) × X × Y)
        ⊎ ((rounds.pieces.end ≤ length p.choices) × (rounds.attempts.queue.items ≡ []) × Z)
        → rounds.attempts.queue.items ≡ []
    by_mode (inl h) = let less = h.0 in absurd (omega (arith, less, over))
    by_mode (inr h) = h.1

pub few_jobs : (cuts : List ℕ) (p : ProgressValue) (rounds : Rounds) → AreStopped cuts p rounds
    → rounds.tally.jobs ≤ length p.choices + length rounds.attempts.queue.items
few_jobs cuts p rounds stop =
    let jobs = stop.jobs_are in
    let few = stop.few in
    omega (arith, jobs, few)

pub at_end : (cuts : List ℕ) (p q : ProgressValue) (rounds : Rounds) → AreUnderway cuts p rounds
    → IsWellFormed p.recording → IsSkip p q → next_number q ≡ None
    → IsTallied cuts q (record rounds.tally { unused = rounds.tally.unused + length rounds.attempts.queue.items })
at_end cuts p q rounds under well skip none =
    let there = kept p q skip in
    subst (λ x. IsTallied cuts x
    (record rounds.tally { unused = rounds.tally.unused + length rounds.attempts.queue.items })) (sym there)
    (finished cuts p rounds.pieces.end rounds.pieces.cuts.now rounds.attempts.queue.items rounds.tally under well
    skip.count skip.unmet (sym (ap next_line there) ∙ no_line q none))
