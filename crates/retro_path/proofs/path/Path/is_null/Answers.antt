use Rattle.retro_path.specs.Path.{is_null}
use Rattle.retro_path.proofs.Known.{null_tested}
use Rattle.retro_path.proofs.path.Path.is_null.Goals as goal

pub returns-clause-value : goal.returns-clause-value
unfolding is_null
returns-clause-value c = let test = null_tested _ c.self.invariant in cc
