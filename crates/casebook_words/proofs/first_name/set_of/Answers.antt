use Rattle.std.proofs.Common.{◌∙◌, ap}
use Rattle.std.specs.List.{list_any}
use Rattle.std.proofs.lemmas.Iterator.{YieldsList-from_slice, items_from_drains}
use Rattle.std.proofs.lemmas.Result.{IfOk-weaker}
use Rattle.retro_tree.specs.Order.{text_eq}
use Rattle.casebook_words.proofs.NameSets.{among}
use Rattle.casebook_words.proofs.first_name.set_of.Goals as goal

pub returns : goal.returns
returns c =
    IfOk-weaker c.collect.result _ _
    (λ set ran name. among ran.0 set ran.2.0 name
    ∙ ap (list_any (λ other. text_eq other name))
    (items_from_drains ran.0 ran.1 (YieldsList-from_slice c.args.names.now cc)))
    c.collect.ensures.ran
