use Rattle.std.proofs.Common.{◌≡◌, ◌∙◌, All, IfSome, [], ap, refl, subst, sym}
use Rattle.std.proofs.lemmas.List.Elements.{All-pop, All-push}
use Rattle.retro_pool.specs.declared.thief.Thief.{Thief}
use Rattle.retro_rounds.specs.declared.worker.Worker.{Worker}
use Rattle.retro_rounds.specs.inner.Workers.{AreOn, board_of}
use Rattle.retro_rounds.proofs.worker.workers_of.Goals as goal

abbrev IsIdle : Worker → Type 0
IsIdle w = w.guesses.items ≡ []

pub loop-thief-preserved : goal.loop-thief-preserved
loop-thief-preserved c =
    let i = c.loop-thief.invariant in
    let b = c.args.owner.board in
    let popped = All-pop (λ (t : Thief). t.board ≡ b) _ _ _ c.pop.ensures.items i.0 in
    let here = subst (λ o. IfSome o (λ (t : Thief). t.board ≡ b)) c.in-Some.is popped.1 in
    let workers = c.loop-thief.workers.items in
    let pushed = c.in_ok-push.ensures.items in (
      popped.0,
      subst (AreOn b) (sym pushed)
          (All-push (λ (w : Worker). board_of w.seat ≡ b) workers c.new.result i.1 (ap board_of c.new.ensures.seat ∙ here)),
      subst (All IsIdle) (sym pushed) (All-push IsIdle workers c.new.result i.2 c.new.ensures.none),
    )

pub returns-clause-board : goal.returns-clause-board
returns-clause-board c =
    subst (AreOn c.args.owner.board) (sym c.in_ok-push-2.ensures.items)
    (All-push (λ (w : Worker). board_of w.seat ≡ c.args.owner.board) c.loop-thief.workers.items _
    c.loop-thief.invariant.1 refl)

pub returns-clause-idle : goal.returns-clause-idle
returns-clause-idle c =
    subst (All IsIdle) (sym c.in_ok-push-2.ensures.items)
    (All-push IsIdle c.loop-thief.workers.items _ c.loop-thief.invariant.2 c.in_ok-with_capacity.ensures.items)
