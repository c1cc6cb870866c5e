use Rattle.std.proofs.Common.{ap, sym, ◌∙◌}
use Rattle.std.specs.FinMap as map
use Rattle.retro_tree.specs.Order.{text_total, text_exact}
use Rattle.retro_tree.proofs.MapLemmas.{made_insert, get_made}
use Rattle.retro_tree.proofs.OverlayLemmas.{any_err}
use Rattle.retro_tree.proofs.vars.Vars.insert.Goals as goal

pub returns-clause-ok : goal.returns-clause-ok
returns-clause-ok c =
    made_insert text_total text_exact c.self.inside.values.entries c.insert.new.self.entries c.args.name
    c.args.value c.in_ok-insert.ensures.updates.0
    ∙ ap (λ m. map.insert m c.args.name c.args.value) c.self.view_is

pub returns-clause-previous : goal.returns-clause-previous
returns-clause-previous c =
    c.in_ok-insert.ensures.old ∙ sym (get_made text_total c.self.inside.values.entries c.args.name)
    ∙ ap (λ m. map.get m c.args.name) c.self.view_is

pub returns-in_err-insert-clause-absent : goal.returns-in_err-insert-clause-absent
returns-in_err-insert-clause-absent c =
    any_err c.from_residual.result _ (ap (λ m. map.get m c.args.name) (sym c.self.view_is)
    ∙ get_made text_total c.self.inside.values.entries c.args.name ∙ c.in_err-insert.ensures.absent)
