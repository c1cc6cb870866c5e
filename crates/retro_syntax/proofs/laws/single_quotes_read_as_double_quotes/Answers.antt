use Rattle.retro_syntax.proofs.LawLemmas.{single_quotes}
use Rattle.retro_syntax.proofs.laws.single_quotes_read_as_double_quotes.Goals as goal

pub returns : goal.returns
returns c = single_quotes
