use Rattle.std.proofs.Common.{◌∙◌, All, subst, sym}
use Rattle.std.specs.Vec.Iter.{into_iter_items}
use Rattle.std.proofs.lemmas.List.Elements.{All-head, All-rest}
use Rattle.retro_rounds.specs.inner.Attempts.{IsGuessIn}
use Rattle.retro_rounds.proofs.attempt.give_all.Goals as goal

pub loop-guess-preserved : goal.loop-guess-preserved
loop-guess-preserved c =
    let i = c.loop-guess.invariant in
    let left = into_iter_items c.next.new.self in
    let split = c.in-Some.ensures.steps.0 in (
      tt,
      tt,
      c.give.ensures.numbers ∙ i.2,
      λ edit r all. All-rest (IsGuessIn edit r) c.in-Some.guess left _ split (i.3 edit r all),
      λ edit r all before. c.give.ensures.right edit r
          (All-head (IsGuessIn edit r) c.in-Some.guess left (subst (All (IsGuessIn edit r)) split (i.3 edit r all)))
          (i.4 edit r all before),
    )

pub returns-clause-right : goal.returns-clause-right
returns-clause-right c = λ edit r all before.
    c.loop-guess.invariant.4 edit r (subst (All (IsGuessIn edit r)) (sym c.into_iter-guess-iterator.ensures.into_iter_gives.0) all)
    before
