use Rattle.std.proofs.Common.{◌∙◌}
use Rattle.casebook_words.proofs.NameSets.{found_lacking}
use Rattle.casebook_words.proofs.first_name.first_lacking.Goals as goal

pub returns : goal.returns
returns c =
    c.first_outside.ensures
    ∙ found_lacking c.args.names.now c.args.others.now c.in_ok-known.known.keys c.in_ok-known.ensures
