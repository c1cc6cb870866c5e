use Rattle.retro_syntax.proofs.LineLemmas.{one_line}
use Rattle.retro_syntax.proofs.lines.one_line.Goals as goal

pub returns : goal.returns
returns c = one_line
