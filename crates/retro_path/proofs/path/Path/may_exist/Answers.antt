use Rattle.retro_path.proofs.Known.{null_is, may_exist_tested}
use Rattle.retro_path.proofs.path.Path.may_exist.Goals as goal

pub starts_with-requires-clause-prefix : goal.starts_with-requires-clause-prefix
starts_with-requires-clause-prefix c = null_is

pub returns : goal.returns
returns c = let test = may_exist_tested _ c.self.invariant in cc
