use Rattle.std.proofs.Common.{◌∙◌, ap}
use Rattle.std.specs.FinMap as finmap
use Rattle.retro_path.specs.Order.{text_exact, text_total}
use Rattle.retro_tree.proofs.MapLemmas.{made_insert}
use Rattle.casebook_import.proofs.said_vars.SaidVars.insert.Goals as goal

pub returns : goal.returns
returns c =
    made_insert text_total text_exact c.self.inside.values.entries c.insert.new.self.entries
    c.args.name c.args.text c.in_ok-insert.ensures.updates.0
    ∙ ap (λ m. finmap.insert m c.args.name c.args.text) c.self.view_is
