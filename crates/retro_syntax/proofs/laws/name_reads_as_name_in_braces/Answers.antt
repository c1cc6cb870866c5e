use Rattle.retro_syntax.proofs.LawLemmas.{name_in_braces}
use Rattle.retro_syntax.proofs.laws.name_reads_as_name_in_braces.Goals as goal

pub returns : goal.returns
returns c = name_in_braces
