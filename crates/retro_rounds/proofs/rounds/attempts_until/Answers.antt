use Rattle.std.proofs.Common.{◌≡◌, ◌∙◌, List, subst, sym, ℕ}
use Rattle.std.specs.List.{AllByRecursion}
use Rattle.std.specs.FinMap as map
use Rattle.std.proofs.lemmas.List.Elements.{recursion_from_All}
use Rattle.std.proofs.lemmas.Result.{IfOk-weaker}
use Rattle.retro_keep.specs.Recording.{IsWellFormed, RecordingValue, number_in}
use Rattle.retro_pool.specs.Jobs.{IsWanted}
use Rattle.retro_redo.specs.Editing.{EditMap}
use Rattle.retro_redo.specs.Ground.{GroundValue, edit_lent}
use Rattle.retro_redo.specs.Meetings.{lines_until}
use Rattle.retro_redo.specs.Picks.{PicksBy}
use Rattle.retro_rounds.specs.inner.Attempts.{IsAttempt}
use Rattle.retro_rounds.specs.inner.Rounds.{IsJobNow}
use Rattle.retro_rounds.proofs.Shown.{ground_now, made_jobs}
use Rattle.retro_rounds.proofs.rounds.attempts_until.Goals as goal

pub returns-clause-attempts : goal.returns-clause-attempts
returns-clause-attempts g c =
    IfOk-weaker c.guesses_of.result _ _ (λ v all.
    subst (λ (x : EditMap × RecordingValue). AllByRecursion (IsAttempt (map.get x.0) x.1) v.items)
    (λ i. (c.ground-ground.ensures.edits i, c.ground-ground.ensures.recording i))
    (recursion_from_All (IsAttempt (edit_lent c.ground-ground.result) c.ground-ground.result.recording) v.items all))
    c.guesses_of.ensures.right

pub returns-clause-jobs : goal.returns-clause-jobs
returns-clause-jobs g c =
    let p = c.args.repairer.now in
    let lent = c.ground-ground.ensures in
    let overlay = c.ground-ground.result.overlay in
    let same : c.ground-ground.result ≡ ground_now p overlay =
    (λ i. record { recording = lent.recording i; edits = lent.edits i; overlay = overlay }) in
    let keys = c.in_ok-numbers.numbers.keys in
    let jobs = c.in_ok-jobs.jobs.items in
    let numbers = c.as_slice.ensures.value ∙ c.in_ok-in_order.ensures in
    let wanted = subst (λ (x : GroundValue × List ℕ). PicksBy (λ n. n) (IsWanted x.0) x.1 jobs) (λ i. (same i, numbers i))
    c.in_ok-jobs.ensures in
    let made = made_jobs p overlay lent.exact c.args.end keys jobs
    (subst IsWellFormed (c.recording.ensures ∙ lent.recording) c.lines.ensures.well_formed) c.in_ok-numbers.ensures wanted in
    IfOk-weaker c.guesses_of.result _ _ (λ v numbers.
    subst (PicksBy number_in (IsJobNow p) (lines_until c.args.end p)) (sym numbers) made) c.guesses_of.ensures.numbers
