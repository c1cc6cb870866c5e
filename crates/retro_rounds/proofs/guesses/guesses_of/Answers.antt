use Rattle.std.proofs.Common.{◌≡◌, All, None, arith, subst, sym}
use Rattle.std.proofs.lemmas.List.{take_at}
use Rattle.std.proofs.lemmas.List.Elements.{All-weaker}
use Rattle.retro_redo.specs.Ground.{edit_lent}
use Rattle.retro_rounds.specs.declared.attempt.Attempt.{Attempt}
use Rattle.retro_rounds.specs.inner.Attempts.{IsAttempt}
use Rattle.retro_rounds.specs.inner.Workers.{AreOn, HasGuesses}
use Rattle.retro_rounds.proofs.Gathered.{none_right}
use Rattle.retro_rounds.proofs.guesses.guesses_of.Goals as goal

-- a list that was lent as a slice is the slice, since that has as many items

pub end_round-requires-clause-board : goal.end_round-requires-clause-board
end_round-requires-clause-board g c =
    let b = c.deal_all.new.owner.board in
    let lent = c.as_mut_slice.ensures in (
      b,
      subst (AreOn b)
          (sym (take_at c.work_all.new.workers _ c.in_ok-workers.workers.len
          (omega (arith, c.work_all.auto.workers, lent.len))))
          (c.work_all.ensures.board b (subst (AreOn b) (sym lent.value) c.in_ok-workers.ensures.board)),
    )

pub returns-clause-right : goal.returns-clause-right
returns-clause-right g c =
    let ground = c.args.ground.now in
    let r = ground.recording in
    let edit = edit_lent ground in
    let attempts = c.in-Ok.round.attempts in
    let workers = subst (All (HasGuesses ground))
    (sym (take_at c.work_all.new.workers _ c.in_ok-workers.workers.len
    (omega (arith, c.work_all.auto.workers, c.as_mut_slice.ensures.len)))) c.work_all.ensures.right in
    let none = All-weaker (λ (a : Attempt). a.run ≡ None) (IsAttempt edit r) (none_right edit r)
    attempts.items c.in-Ok.ensures.none in
    subst (All (IsAttempt edit r))
    (sym (take_at c.end_round.new.attempts _ attempts.len
    (omega (arith, c.end_round.auto.attempts, c.as_mut_slice-2.ensures.len))))
    (c.end_round.ensures.right ground workers (subst (All (IsAttempt edit r)) (sym c.as_mut_slice-2.ensures.value) none))
