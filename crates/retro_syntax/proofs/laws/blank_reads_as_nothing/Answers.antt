use Rattle.retro_syntax.proofs.LawLemmas.{blank_before, blank_after, blank_between}
use Rattle.retro_syntax.proofs.laws.blank_reads_as_nothing.Goals as goal

pub returns : goal.returns
returns c = record { before = blank_before; after = blank_after; between = blank_between }
