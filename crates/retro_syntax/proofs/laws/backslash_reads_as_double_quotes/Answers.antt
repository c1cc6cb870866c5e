use Rattle.retro_syntax.proofs.LawLemmas.{backslash_quotes}
use Rattle.retro_syntax.proofs.laws.backslash_reads_as_double_quotes.Goals as goal

pub returns : goal.returns
returns c = backslash_quotes
