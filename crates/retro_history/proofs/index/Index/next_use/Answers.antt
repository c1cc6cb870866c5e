use Rattle.std.proofs.Common.{Option, ap, sym, ◌∙◌}
use Rattle.std.specs.Option.{option_copied, option_map, unwrap_or}
use Rattle.retro_history.specs.inner.Numbers.{earliest, first_above}
use Rattle.retro_history.specs.inner.Uses.{no_uses}
use Rattle.retro_history.specs.declared.cell_history.CellHistory.{CellHistory}
use Rattle.retro_history.proofs.Readers.{next_use_found}
use Rattle.retro_history.proofs.index.Index.next_use.Goals as goal

pub returns-in-Some : goal.returns-in-Some
returns-in-Some c = λ lines indexed.
    let after = c.args.after in
    let here = ap (λ (o : Option CellHistory). unwrap_or (option_map (λ h. h.uses) o) no_uses)
    (sym (ap option_copied c.in-Some.is) ∙ c.get.ensures) in
    c.earliest.ensures
    ∙ (λ i. earliest (c.next.ensures i) (c.first_above-listed.ensures i))
    ∙ (λ i. earliest (earliest (first_above after (here i).written) (first_above after (here i).read))
    (first_above after (c.in_ok-parent_listings.ensures.value i)))
    ∙ next_use_found after c.args.self.now c.args.cell.now lines indexed

pub returns-in-None : goal.returns-in-None
returns-in-None c = λ lines indexed.
    let after = c.args.after in
    let none = ap (λ (o : Option CellHistory). unwrap_or (option_map (λ h. h.uses) o) no_uses)
    (sym (ap option_copied c.in-None.is) ∙ c.get.ensures) in
    c.first_above-listed.ensures
    ∙ (λ i. earliest (earliest (first_above after (none i).written) (first_above after (none i).read))
    (first_above after (c.in_ok-parent_listings.ensures.value i)))
    ∙ next_use_found after c.args.self.now c.args.cell.now lines indexed
