use Rattle.std.proofs.Common.{[], ◌∷◌, ◌++◌, ◌∙◌, ap, append_assoc, sym}
use Rattle.std.proofs.lemmas.List.{append-nil}
use Rattle.retro_rounds.proofs.jobs.in_order.Goals as goal

pub loop-number-preserved : goal.loop-number-preserved
loop-number-preserved c =
    c.loop-number.invariant ∙ ap (λ later. c.loop-number.list.items ++ later) c.in-Some.ensures.steps
    ∙ sym (ap (λ before. before ++ c.next.new.self) c.in_ok-push.ensures.items
    ∙ append_assoc c.loop-number.list.items (c.in-Some.number.now ∷ []) c.next.new.self)

pub returns : goal.returns
returns c =
    sym (c.loop-number.invariant ∙ ap (λ later. c.loop-number.list.items ++ later) c.in-None.ensures.steps.0
    ∙ append-nil c.loop-number.list.items)
