use Rattle.casebook_real.proofs.Played.{lines_played, world_played}
use Rattle.casebook_real.proofs.laws.retro_shell_meets_the_premises.Goals as goal

pub returns-clause-lines : goal.returns-clause-lines
returns-clause-lines c = lines_played

pub returns-clause-world : goal.returns-clause-world
returns-clause-world c = λ edit r. world_played edit r.lines r.first
