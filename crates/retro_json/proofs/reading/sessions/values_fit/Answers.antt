use Rattle.std.proofs.Common.{◌∙◌, ap, length, nat_le, sym}
use Rattle.std.specs.List.{list_all}
use Rattle.retro_tree.specs.Limits.{values_fit}
use Rattle.retro_tree.specs.Order.{text_exact, text_total}
use Rattle.retro_tree.specs.Session.{value_limit}
use Rattle.retro_tree.proofs.MapLemmas.{made_entries}
use Rattle.retro_json.proofs.reading.sessions.values_fit.Goals as goal

pub loop-value-init : goal.loop-value-init
unfolding values_fit
loop-value-init c =
    ap (list_all (λ e. nat_le (length e.1) value_limit))
    (made_entries text_total text_exact c.args.vars.now.entries c.iter-value-items.ensures.ordered
    ∙ sym c.iter-value-items.ensures.rest ∙ sym c.into_iter-value-iterator.ensures.into_iter_gives)
