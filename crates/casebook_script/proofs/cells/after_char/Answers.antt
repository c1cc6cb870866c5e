use Rattle.casebook_script.proofs.Escapes.{after_from_strip}
use Rattle.casebook_script.proofs.cells.after_char.Goals as goal

pub returns : goal.returns
returns c =
    after_from_strip c.args.c c.args.text.now c.strip_prefix.result c.strip_prefix.ensures.cases c.requires
