use Rattle.std.proofs.Common.{◌∙◌, List, ap, map}
use Rattle.std.proofs.lemmas.Result.{IfOk-weaker}
use Rattle.casebook_text.specs.Item.{Line}
use Rattle.casebook_text.proofs.LineSetLemmas.{chosen_in}
use Rattle.casebook_text.proofs.chosen_lines.chosen.Goals as goal

pub returns : goal.returns
returns c =
    IfOk-weaker c.numbers_in.result _ _
    (λ v are. are ∙ ap (λ (ls : List Line). map (λ (line : Line). line.0) ls)
    (chosen_in c.args.items.now c.args.lines.now c.in_ok-set.set.keys c.args.all c.requires
    c.in_ok-set.ensures))
    c.numbers_in.ensures
