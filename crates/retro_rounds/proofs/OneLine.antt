-- One line is settled.
use Rattle.std.proofs.Common.{◌≡◌, ◌∙◌, inl, inr, ℕ, zero, suc, ◌+◌, ◌-◌, ◌≤◌, ◌<◌, List, [], ◌∷◌}
use Rattle.std.proofs.Common.{◌++◌, length, take, drop, Option, Some, option_map, refl, sym, ap, arith}
use Rattle.std.proofs.Common.{Bool, true, false, subst}
use Rattle.std.specs.List.{AllByRecursion}
use Rattle.std.specs.Option.{IsSome, is_some}
use Rattle.std.proofs.lemmas.Bool.{false≢true}
use Rattle.retro_shell.specs.Runs.{RunValue}
use Rattle.retro_keep.specs.Recorded.{recorded_before}
use Rattle.retro_keep.specs.Recording.{IsWellFormed, number_in}
use Rattle.retro_redo.specs.Meetings.{lines_until}
use Rattle.retro_redo.specs.Moments.{Moment, text_now}
use Rattle.retro_redo.specs.Picks.{PicksBy}
use Rattle.retro_redo.specs.Progress.{ProgressValue, edit_in, next_line, next_number, recorded_now, repaired_now}
use Rattle.retro_redo.specs.Progress.{settled_now}
use Rattle.retro_redo.specs.Settling.{IsOneMore, IsSettlement}
use Rattle.retro_redo.specs.declared.settlement.Settlement.{Settlement}
use Rattle.retro_redo.specs.declared.settlement.Settlement.TheVariants.{Cancelled, Kept, TakenUp, Redone}
use Rattle.retro_redo.specs.declared.step.Step.{Step}
use Rattle.retro_redo.specs.declared.tally.Tally.{Tally}
use Rattle.retro_redo.proofs.Before.{before_next}
use Rattle.retro_redo.proofs.KeptLines.{length_more}
use Rattle.retro_redo.proofs.Positions.{Line, moment, settled_more}
use Rattle.retro_difference.proofs.UsedLines.{from_line, rise_after}
use Rattle.retro_rounds.specs.Jobs.{IsJob}
use Rattle.retro_rounds.specs.Pieces.{Start}
use Rattle.retro_rounds.specs.Tally.{spent}
use Rattle.retro_rounds.specs.inner.Attempts.{IsAttempt, IsOther, numbers_of}
use Rattle.retro_rounds.specs.inner.Places.{Place, after_line}
use Rattle.retro_rounds.specs.inner.Rounds.{IsCounted, IsCountedBy, IsJobLine, IsJobOf, IsOwn}
use Rattle.retro_rounds.specs.inner.Rounds.{IsSpentOn, counted}
use Rattle.retro_rounds.specs.declared.attempt.Attempt.{Attempt}
use Rattle.retro_rounds.specs.declared.pieces.Pieces.{Pieces}
use Rattle.retro_rounds.specs.declared.rounds.Rounds.{Rounds}
use Rattle.retro_rounds.proofs.ByEdits.{met_runs}
use Rattle.retro_rounds.proofs.Counting.{AreCounted, beside, no_job, other_job, start_of}
use Rattle.retro_rounds.proofs.Counting.{unused_job}
use Rattle.retro_rounds.proofs.Picked.{all_front, picks_all}
use Rattle.retro_rounds.proofs.Shown.{all_above}
use Rattle.retro_rounds.proofs.Underway.{IsReady, IsUnderway, start_next}
use Rattle.retro_rounds.proofs.Stops.{number_line}

-- a job that was counted by how its line was settled ended without use, or in another way
spent_by : (p : ProgressValue) (guess : Option RunValue) (step : Step) (how : Settlement) (was_made : Bool)
    (t u : Tally) → u ≡ counted how was_made t
    → ((l : Line) → next_line p ≡ Some l → IsSettlement p l guess step how)
    → IsSpentOn p t u
spent_by p guess step Cancelled was_made t u is settled =
    inl (is, λ l next runs own. absurd (false≢true (subst IsSome (settled l next).1 runs)))
spent_by p guess step Kept was_made t u is settled =
    inl (is, λ l next runs own. ((settled l next).1, (settled l next).2 own))
spent_by p guess step TakenUp was_made t u is settled =
    let sum = ap spent is in
    inr (
      (ap (λ (x : Tally). x.jobs) is, ap (λ (x : Tally). x.unused) is, omega (arith, sum)),
      λ l next runs own. (settled l next).1,
    )
spent_by p guess step Redone true t u is settled =
    let sum = ap spent is in
    inr (
      (ap (λ (x : Tally). x.jobs) is, ap (λ (x : Tally). x.unused) is, omega (arith, sum)),
      λ l next runs own. (settled l next).1,
    )
spent_by p guess step Redone false t u is settled =
    let sum = ap spent is in
    inr (
      (ap (λ (x : Tally). x.jobs) is, ap (λ (x : Tally). x.unused) is, omega (arith, sum)),
      λ l next runs own. (settled l next).1,
    )

-- `end` is the index of the first line after the current piece, `rest` has the numbers of lines of
-- the pieces after it, and `waiting` are the attempts that wait.

module _ (cuts : List ℕ) (p : ProgressValue) (old new : Rounds) (number : ℕ) (step : Step)
    (is : IsReady cuts p old.pieces.end old.pieces.cuts.now old.attempts.queue.items old.tally)
    (well : IsWellFormed p.recording) (l : Line) (here : next_line p ≡ Some l) (named : l.0 ≡ number) where
  abbrev more : ProgressValue
  more = record p { choices = p.choices ++ step ∷ [] }

  abbrev m : Moment
  m = moment l (recorded_now p) (repaired_now p)

  abbrev start : Start
  start = start_of is.left is.start m

  start_same : (left : ℕ) (s : Start) → start_of left s m ≡ start_next left s p
  start_same zero s = refl
  start_same (suc left) s = refl

  one_more : length more.choices ≡ suc (length p.choices)
  one_more = length_more p.choices step

  lines_now : lines_until old.pieces.end p ≡ l ∷ lines_until old.pieces.end more
  lines_now =
      let within = is.within in
      let at = one_more in
      let count : old.pieces.end - length p.choices ≡ suc (old.pieces.end - length more.choices) = omega (arith, within, at) in
      (λ i. take (count i) (from_line p.recording.lines (length p.choices) l here i))
      ∙ ap (λ k. l ∷ take (old.pieces.end - length more.choices) (drop k p.recording.lines)) (sym one_more)

  picked_now : PicksBy number_in (IsJobOf p start) (l ∷ lines_until old.pieces.end more) (numbers_of old.attempts.queue.items)
  picked_now =
      subst (λ (x : Start × List Line). PicksBy number_in (IsJobOf p x.0) x.1 (numbers_of old.attempts.queue.items))
      (λ i. (sym (start_same is.left is.start) i, lines_now i)) is.picked

  before : recorded_before l.0 p.recording ≡ recorded_now p
  before =
      before_next p l.0 well (ap (option_map (λ (x : Line). x.0)) here)

  job_here : IsJobOf p start l → IsJob (edit_in p) (beside is.left is.start m)
  job_here job = subst (λ s. IsJobLine (edit_in p) start s l) before job

  job_there : IsJob (edit_in p) (beside is.left is.start m) → IsJobOf p start l
  job_there job = subst (λ s. IsJobLine (edit_in p) start s l) (sym before) job

  -- a job runs a text
  runs : IsJobOf p start l → IsSome (text_now (edit_in p) l)
  runs job = met_runs l.1.notes (edit_in p l.0) start.recorded start.repaired l.1.text job.0

  -- what holds then, if the counts are so
  abbrev CountedOn : ℕ → ℕ → Type 0
  CountedOn j u = AreCounted (edit_in p) cuts (IsOwn p.recording) (settled_now p ++ m ∷ [])
      (after_line is.left is.rest_now).left start (after_line is.left is.rest_now).cuts j u

  counted_on : (j u v : ℕ) → u ≡ v → CountedOn j u
      → AreCounted (edit_in p) cuts (IsOwn p.recording) (settled_now more)
      (old.pieces.end - length more.choices) start old.pieces.cuts.now j v
  counted_on j u v same counted =
      let at = one_more in
      let left : old.pieces.end - suc (length p.choices) ≡ old.pieces.end - length more.choices = omega (arith, at) in
      subst (λ (x : List Moment × ℕ × List ℕ × ℕ). AreCounted (edit_in p) cuts (IsOwn p.recording) x.0 x.1 start x.2 j x.3)
      (λ i. (
        sym (settled_more p.recording.lines p.choices l step p.recording.first p.recording.first here) i,
        (ap (λ (x : Place). x.left) is.next ∙ left) i,
        ap (λ (x : Place). x.cuts) is.next i,
        same i,
      )) counted

  underway : (rest_jobs : List ℕ) (waiting : List Attempt) (tally : Tally) (j u : ℕ)
      → PicksBy number_in (IsJobOf p start) (lines_until old.pieces.end more) rest_jobs → rest_jobs ≡ numbers_of waiting
      → AllByRecursion (IsAttempt (edit_in p) p.recording) waiting → tally.jobs ≡ j + length waiting → j ≤ suc (length p.choices)
      → tally.jobs ≡ spent tally + length waiting → u ≡ tally.unused → CountedOn j u
      → IsUnderway cuts more old.pieces.end old.pieces.cuts.now waiting tally
  underway rest_jobs waiting tally j u picked same attempts jobs few sum unused counted =
      let at = one_more in
      let within = is.within in
      record {
        start = start;
        within = omega (arith, at, within);
        picked = subst (PicksBy number_in (IsJobOf p start) (lines_until old.pieces.end more)) same picked;
        attempts = attempts;
        jobs = j;
        jobs_are = jobs;
        few = omega (arith, few, at);
        sum = sum;
        cuts_are = is.cuts_are;
        counted = counted_on j u tally.unused unused counted;
      }

  abbrev Result : Type 0
  Result = IsUnderway cuts more old.pieces.end old.pieces.cuts.now new.attempts.queue.items new.tally

  -- there was no attempt
  unattempted : new.attempts.queue.items ≡ old.attempts.queue.items → IsOther number old.attempts.queue.items
      → new.tally ≡ old.tally → Result
  unattempted same other counts =
      subst (λ (x : List Attempt × Tally). IsUnderway cuts more old.pieces.end old.pieces.cuts.now x.0 x.1)
      (λ i. (sym same i, sym counts i)) (by_pick picked_now)
    where
      not_first : (waiting : List Attempt) (ns : List ℕ) → IsOther number waiting → numbers_of waiting ≡ l.0 ∷ ns → ⊥
      not_first [] ns h e = cc
      not_first (a ∷ waiting) ns h e =
          let first : a.number ≡ l.0 = cc in h (first ∙ named)

      by_pick : PicksBy number_in (IsJobOf p start) (l ∷ lines_until old.pieces.end more)
          (numbers_of old.attempts.queue.items)
          → IsUnderway cuts more old.pieces.end old.pieces.cuts.now old.attempts.queue.items old.tally
      by_pick (inl h) = absurd (not_first old.attempts.queue.items h.1 other h.2)
      by_pick (inr h) =
          let few = is.few in
          underway (numbers_of old.attempts.queue.items) old.attempts.queue.items old.tally is.jobs old.tally.unused h.1 refl
          is.attempts is.jobs_are (omega (arith, few)) is.sum refl
          (no_job (edit_in p) cuts (IsOwn p.recording) (settled_now p) is.left is.start is.rest_now m is.jobs
          old.tally.unused is.counted (λ job. h.0 (job_there job)))

  -- the attempt was taken
  attempted_now : (a : Attempt) → old.attempts.queue.items ≡ a ∷ new.attempts.queue.items → a.number ≡ number
      → IsSpentOn p old.tally new.tally → Result
  attempted_now a split first spent_on = by_pick picked_now spent_on
    where
      waiting : List Attempt
      waiting = new.attempts.queue.items

      here_first : numbers_of old.attempts.queue.items ≡ a.number ∷ numbers_of new.attempts.queue.items
      here_first = ap numbers_of split

      attempts : AllByRecursion (IsAttempt (edit_in p) p.recording) new.attempts.queue.items
      attempts = (subst (AllByRecursion (IsAttempt (edit_in p) p.recording)) split is.attempts).1

      count : length old.attempts.queue.items ≡ suc (length new.attempts.queue.items)
      count = ap (λ (xs : List Attempt). length xs) split

      later_lines : AllByRecursion (λ (x : Line). l.0 < x.0) (lines_until old.pieces.end more)
      later_lines =
          subst (λ k. AllByRecursion (λ (x : Line). l.0 < x.0) (take (old.pieces.end - length more.choices)
          (drop k p.recording.lines))) (sym one_more)
          (all_front _ (old.pieces.end - length more.choices) (drop (suc (length p.choices)) p.recording.lines)
          (all_above l.0 l.0 (drop (suc (length p.choices)) p.recording.lines) (omega arith)
          (rise_after 0 p.recording.lines (length p.choices) l well.rising here)))

      by_pick : PicksBy number_in (IsJobOf p start) (l ∷ lines_until old.pieces.end more)
          (numbers_of old.attempts.queue.items) → IsSpentOn p old.tally new.tally
          → IsUnderway cuts more old.pieces.end old.pieces.cuts.now new.attempts.queue.items new.tally
      by_pick (inr h) on =
          let above = picks_all number_in _ (λ k. l.0 < k) (lines_until old.pieces.end more)
          (numbers_of old.attempts.queue.items) later_lines h.1 in
          let over = (subst (AllByRecursion (λ k. l.0 < k)) here_first above).0 in
          let name = named in
          absurd (omega (arith, over, first, name))
      by_pick (inl h) (inl on) =
          let rest_jobs : h.1 ≡ numbers_of new.attempts.queue.items =
          let both : l.0 ∷ h.1 ≡ a.number ∷ numbers_of new.attempts.queue.items = sym h.2 ∙ here_first in cc in
          let jobs : new.tally.jobs ≡ old.tally.jobs = ap (λ (t : Tally). t.jobs) on.0 in
          let unused : new.tally.unused ≡ old.tally.unused + 1 = ap (λ (t : Tally). t.unused) on.0 in
          let more_spent : spent new.tally ≡ old.tally.taken_up + (old.tally.unused + 1) + old.tally.wrong + old.tally.given_up =
          ap spent on.0 in
          let jobs_were = is.jobs_are in
          let sum_was = is.sum in
          let few = is.few in
          let length_was = count in
          underway h.1 new.attempts.queue.items new.tally (is.jobs + 1) (old.tally.unused + 1) h.3 rest_jobs attempts
          (omega (arith, jobs, jobs_were, length_was)) (omega (arith, few))
          (omega (arith, jobs, sum_was, more_spent, length_was)) (sym unused)
          (unused_job (edit_in p) cuts (IsOwn p.recording) (settled_now p) is.left is.start is.rest_now m is.jobs
          old.tally.unused is.counted (job_here h.0) (λ own. on.1 l here (runs h.0) own))
      by_pick (inl h) (inr on) =
          let rest_jobs : h.1 ≡ numbers_of new.attempts.queue.items =
          let both : l.0 ∷ h.1 ≡ a.number ∷ numbers_of new.attempts.queue.items = sym h.2 ∙ here_first in cc in
          let jobs = on.0.0 in
          let unused = on.0.1 in
          let more_spent = on.0.2 in
          let jobs_were = is.jobs_are in
          let sum_was = is.sum in
          let few = is.few in
          let length_was = count in
          underway h.1 new.attempts.queue.items new.tally (is.jobs + 1) old.tally.unused h.3 rest_jobs attempts
          (omega (arith, jobs, jobs_were, length_was)) (omega (arith, few))
          (omega (arith, jobs, sum_was, more_spent, length_was)) (sym unused)
          (other_job (edit_in p) cuts (IsOwn p.recording) (settled_now p) is.left is.start is.rest_now m is.jobs
          old.tally.unused is.counted (job_here h.0) (λ own. on.1 l here (runs h.0) own))

  settled_by : (q : ProgressValue) → IsCountedBy p q number old new → Result
  settled_by q (inl h) = unattempted h.0 h.1 h.2
  settled_by q (inr h) =
      attempted_now h.0 h.1 h.2
      (spent_by p h.0.run h.4.0 h.3 (is_some h.0.run) old.tally new.tally h.5 h.4.3)

pub settled_next : (cuts : List ℕ) (p q : ProgressValue) (old new : Rounds) (number : ℕ)
    → IsReady cuts p old.pieces.end old.pieces.cuts.now old.attempts.queue.items old.tally → IsWellFormed p.recording
    → next_number p ≡ Some number → IsOneMore p q → IsCounted p q number old new
    → IsUnderway cuts q new.pieces.end new.pieces.cuts.now new.attempts.queue.items new.tally
settled_next cuts p q old new number is well next one counted =
    let found = number_line (next_line p) number next in
    subst (λ (x : ProgressValue × Pieces). IsUnderway cuts x.0 x.1.end x.1.cuts.now new.attempts.queue.items new.tally)
    (λ i. (sym one.1 i, sym counted.pieces i))
    (settled_by cuts p old new number one.0 is well found.0 found.1 found.2 q counted.by)
