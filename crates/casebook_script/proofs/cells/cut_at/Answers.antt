use Rattle.casebook_script.proofs.Escapes.{cut_from_split}
use Rattle.casebook_script.proofs.cells.cut_at.Goals as goal

pub returns : goal.returns
returns c = cut_from_split c.args.c c.args.text.now c.split_once.result c.split_once.ensures.cases c.requires
