use Rattle.std.proofs.Common.{◌≡◌, ◌∙◌, All, subst}
use Rattle.std.specs.Vec.Iter.{into_iter_items}
use Rattle.std.proofs.lemmas.List.Elements.{All-head, All-rest, All-weaker}
use Rattle.retro_pool.specs.Guesses.{IsGuess}
use Rattle.retro_redo.specs.Ground.{edit_lent}
use Rattle.retro_rounds.specs.declared.worker.Worker.{Worker}
use Rattle.retro_rounds.specs.inner.Attempts.{IsGuessIn}
use Rattle.retro_rounds.specs.inner.Workers.{AreOn, HasGuesses, board_of}
use Rattle.retro_rounds.proofs.Gathered.{guess_in}
use Rattle.retro_rounds.proofs.guesses.end_round.Goals as goal

pub loop-worker-preserved : goal.loop-worker-preserved
loop-worker-preserved c =
    let i = c.loop-worker.invariant in
    let worker = c.in-Some.worker in
    let left = into_iter_items c.next.new.self in
    let split = c.in-Some.ensures.steps.0 in
    let b = i.2.0 in (
      tt,
      tt,
      (
        b,
        All-rest (λ (w : Worker). board_of w.seat ≡ b) worker left _ split i.2.1,
        c.put_back.ensures b
            (All-head (λ (w : Worker). board_of w.seat ≡ b) worker left (subst (AreOn b) split i.2.1)) i.2.2,
      ),
      c.give_all.ensures.numbers ∙ i.3,
      λ g all. All-rest (HasGuesses g) worker left _ split (i.4 g all),
      λ g all before. c.give_all.ensures.right (edit_lent g) g.recording
          (All-weaker (IsGuess g) (IsGuessIn (edit_lent g) g.recording) (guess_in g) worker.guesses.items
          (All-head (HasGuesses g) worker left (subst (All (HasGuesses g)) split (i.4 g all))))
          (i.5 g all before),
    )
