use Rattle.retro_syntax.proofs.LawLemmas.{removed_newline}
use Rattle.retro_syntax.proofs.laws.removed_newline_reads_as_nothing.Goals as goal

pub returns : goal.returns
returns c = removed_newline
