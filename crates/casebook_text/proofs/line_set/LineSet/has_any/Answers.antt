use Rattle.std.proofs.Common.{◌∙◌}
use Rattle.casebook_text.proofs.LineSetLemmas.{any_found}
use Rattle.casebook_text.proofs.line_set.LineSet.has_any.Goals as goal

pub returns : goal.returns
returns c = λ lines all.
    c.is_some.ensures ∙ any_found c.args.named c.args.self.now c.find.result c.find.ensures.found c.find.ensures.none lines all
