use Rattle.std.proofs.Common.{◌∙◌, ap, sym}
use Rattle.std.specs.FinMap as finmap
use Rattle.retro_path.specs.Order.{text_exact, text_total}
use Rattle.retro_tree.proofs.MapLemmas.{made_entries}
use Rattle.casebook_import.proofs.said_vars.SaidVars.iter.Goals as goal

pub returns : goal.returns
returns c =
    c.iter.ensures.rest
    ∙ sym (made_entries text_total text_exact c.self.inside.values.entries c.iter.ensures.ordered)
    ∙ ap finmap.entries c.self.view_is
