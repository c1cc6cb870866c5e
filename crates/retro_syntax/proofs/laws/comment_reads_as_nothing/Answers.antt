use Rattle.retro_syntax.proofs.LawLemmas.{comment_is_nothing}
use Rattle.retro_syntax.proofs.laws.comment_reads_as_nothing.Goals as goal

pub returns : goal.returns
returns c = comment_is_nothing
