use Rattle.std.proofs.Common.{ap, sym, ◌∙◌}
use Rattle.retro_history.specs.inner.Numbers.{are_below, rise}
use Rattle.retro_history.proofs.Numbers.{rise_pushed}
use Rattle.retro_history.proofs.line_numbers.LineNumbers.add.Goals as goal

pub invariant_of-self : goal.invariant_of-self
invariant_of-self c =
    let numbers = c.self.inside.numbers.items in
    ap rise c.in_ok-push.ensures.items ∙ rise_pushed c.args.number numbers c.self.invariant
    (ap (are_below c.args.number) c.self.view_is ∙ sym c.if-are_below.ensures)
