use Rattle.casebook_declare.proofs.Start.{after_from_strip}
use Rattle.casebook_declare.proofs.parts.after.Goals as goal

pub returns : goal.returns
returns c =
    after_from_strip c.args.front.now c.args.text.now c.strip_prefix.result c.strip_prefix.ensures.cases
