-- What holds of the rounds of a repair between two lines.
use Rattle.std.proofs.Common.{◌≡◌, ◌∙◌, ◌⊎◌, ℕ, zero, suc, ◌+◌, ◌-◌, ◌≤◌, ◌<◌, true, List, [], ◌∷◌}
use Rattle.std.proofs.Common.{length, take, drop, refl, sym, ap, arith}
use Rattle.std.proofs.Common.{subst}
use Rattle.std.specs.List.{AllByRecursion}
use Rattle.retro_keep.specs.Recording.{number_in}
use Rattle.retro_redo.specs.Meetings.{lines_until}
use Rattle.retro_redo.specs.Moments.{Moment}
use Rattle.retro_redo.specs.Picks.{PicksBy}
use Rattle.retro_redo.specs.Progress.{ProgressValue, edit_in, recorded_now, repaired_now}
use Rattle.retro_redo.specs.Progress.{settled, settled_now}
use Rattle.retro_redo.specs.Repair.{no_guesses}
use Rattle.retro_redo.specs.declared.step.Step.{Step}
use Rattle.retro_redo.specs.declared.tally.Tally.{Tally}
use Rattle.retro_redo.proofs.Positions.{settled_none}
use Rattle.retro_rounds.specs.Jobs.{IsJob, IsUnused}
use Rattle.retro_rounds.specs.Pieces.{InPiece, Start, from_within, start_at}
use Rattle.retro_rounds.specs.Refusals.{are_cuts}
use Rattle.retro_rounds.specs.Tally.{IsCount, spent}
use Rattle.retro_rounds.specs.inner.Attempts.{IsAttempt, numbers_of}
use Rattle.retro_rounds.specs.inner.Places.{after_line, after_lines}
use Rattle.retro_rounds.specs.inner.Rounds.{IsJobOf, IsOwn}
use Rattle.retro_rounds.specs.inner.Rounds.{start_now}
use Rattle.retro_rounds.specs.declared.attempt.Attempt.{Attempt}
use Rattle.retro_rounds.proofs.Counting.{AreCounted, Counts}
use Rattle.retro_rounds.proofs.Kept.{DifferAlike}

-- `end` is the index of the first line after the current piece, `rest` has the numbers of lines of
-- the pieces after it, and `waiting` are the attempts that wait.

-- ---- what holds between two lines

-- The jobs among the settled lines are counted, and attempts wait at the others of the piece.
pub record IsUnderway (cuts : List ℕ) (p : ProgressValue) (end : ℕ) (rest : List ℕ) (waiting : List Attempt) (tally : Tally)
    : Type 0 where
  pub start : Start
  pub within : length p.choices ≤ end
  pub picked : PicksBy number_in (IsJobOf p start) (lines_until end p) (numbers_of waiting)
  pub attempts : AllByRecursion (IsAttempt (edit_in p) p.recording) waiting
  pub jobs : ℕ
  pub jobs_are : tally.jobs ≡ jobs + length waiting
  pub few : jobs ≤ length p.choices
  pub sum : tally.jobs ≡ spent tally + length waiting
  pub cuts_are : are_cuts rest ≡ true
  pub counted : AreCounted (edit_in p) cuts (IsOwn p.recording) (settled_now p) (end - length p.choices) start rest
      jobs tally.unused

-- the same before a line that is edited or met, which may be in a later piece
pub record IsStopped (cuts : List ℕ) (p : ProgressValue) (end : ℕ) (rest : List ℕ) (waiting : List Attempt) (tally : Tally)
    : Type 0 where
  pub left : ℕ
  pub start : Start
  pub rest_now : List ℕ
  pub attempts : AllByRecursion (IsAttempt (edit_in p) p.recording) waiting
  pub jobs : ℕ
  pub jobs_are : tally.jobs ≡ jobs + length waiting
  pub few : jobs ≤ length p.choices
  pub sum : tally.jobs ≡ spent tally + length waiting
  pub cuts_are : are_cuts rest ≡ true
  pub counted : AreCounted (edit_in p) cuts (IsOwn p.recording) (settled_now p) left start rest_now jobs
      tally.unused
  pub next : after_line left rest_now
      ≡ after_lines (suc (length p.choices) - end) (record { left = end - suc (length p.choices); cuts = rest })
  pub mode : ((length p.choices < end) × (0 < left) × PicksBy number_in (IsJobOf p start) (lines_until end p) (numbers_of waiting))
      ⊎ ((end ≤ length p.choices) × (waiting ≡ []) × ((left ≡ 0) ⊎ DifferAlike start (recorded_now p) (repaired_now p)))

-- the start of the next line's piece
abbrev pub start_next : ℕ → Start → ProgressValue → Start
start_next zero start p = start_now p
start_next (suc left) start p = start

-- the same if the next line is in the current piece
pub record IsReady (cuts : List ℕ) (p : ProgressValue) (end : ℕ) (rest : List ℕ) (waiting : List Attempt) (tally : Tally)
    : Type 0 where
  pub left : ℕ
  pub start : Start
  pub rest_now : List ℕ
  pub attempts : AllByRecursion (IsAttempt (edit_in p) p.recording) waiting
  pub jobs : ℕ
  pub jobs_are : tally.jobs ≡ jobs + length waiting
  pub few : jobs ≤ length p.choices
  pub sum : tally.jobs ≡ spent tally + length waiting
  pub cuts_are : are_cuts rest ≡ true
  pub counted : AreCounted (edit_in p) cuts (IsOwn p.recording) (settled_now p) left start rest_now jobs
      tally.unused
  pub within : length p.choices < end
  pub next : after_line left rest_now ≡ record { left = end - suc (length p.choices); cuts = rest }
  pub picked : PicksBy number_in (IsJobOf p (start_next left start p)) (lines_until end p) (numbers_of waiting)

-- ---- the first line

all_counted : (P : InPiece → Type 0) (cuts : List ℕ) (start : Start) → Counts P cuts [] 0 start cuts 0
all_counted P cuts start [] k h = let e : k ≡ 0 + k = omega arith in subst (λ j. IsCount P [] j) e h
all_counted P cuts start (m ∷ ms) k h =
    let e : k ≡ 0 + k = omega arith in subst (λ j. IsCount P (from_within 0 (start_at m) cuts (m ∷ ms)) j) e h

pub starts : (p : ProgressValue) (cuts : List ℕ) → p.choices ≡ [] → are_cuts cuts ≡ true
    → IsUnderway cuts p 0 cuts [] no_guesses
starts p cuts none are = record {
  start = start_now p;
  within = omega (arith, length_none);
  picked = subst (λ n. PicksBy number_in (IsJobOf p (start_now p)) (take n (drop (length p.choices) p.recording.lines)) [])
      (sym no_lines) refl;
  attempts = tt;
  jobs = 0;
  jobs_are = refl;
  few = omega arith;
  sum = refl;
  cuts_are = are;
  counted = record {
    jobs = from_none (IsJob (edit_in p));
    unused = λ o. from_none (IsUnused (edit_in p));
  };
}
  where
    length_none : length p.choices ≡ 0
    length_none = ap (λ (steps : List Step). length steps) none

    no_lines : 0 - length p.choices ≡ 0
    no_lines = omega arith

    nothing : settled_now p ≡ []
    nothing =
        ap (λ (steps : List Step). settled p.recording.lines steps p.recording.first p.recording.first) none
        ∙ settled_none p.recording.lines p.recording.first p.recording.first

    from_none : (P : InPiece → Type 0) → Counts P cuts (settled_now p) (0 - length p.choices) (start_now p) cuts 0
    from_none P =
        subst (λ (x : List Moment × ℕ). Counts P cuts x.0 x.1 (start_now p) cuts 0)
        (λ i. (sym nothing i, sym no_lines i)) (all_counted P cuts (start_now p))
