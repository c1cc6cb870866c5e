use Rattle.std.proofs.Common.{ap, sym, ◌∙◌, ◌-◌, ℕ, List, length, slice_get}
use Rattle.std.specs.Option.{option_copied}
use Rattle.retro_history.specs.inner.Numbers.{are_below}
use Rattle.retro_history.proofs.Numbers.{below_by_some}
use Rattle.retro_history.proofs.line_numbers.LineNumbers.are_below.Goals as goal

pub returns-in-Some : goal.returns-in-Some
returns-in-Some c =
    let numbers = c.self.inside.numbers.items in
    below_by_some c.args.number numbers c.in-Some.last.now c.self.invariant
    (sym (ap (λ (ns : List ℕ). slice_get ns (length ns - 1)) c.deref.ensures.value) ∙ sym c.last.ensures.value
    ∙ ap option_copied c.in-Some.is)
    ∙ ap (are_below c.args.number) c.self.view_is
