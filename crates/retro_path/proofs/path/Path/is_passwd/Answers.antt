use Rattle.retro_path.proofs.Known.{passwd_tested}
use Rattle.retro_path.proofs.path.Path.is_passwd.Goals as goal

pub returns : goal.returns
returns c = let test = passwd_tested _ c.self.invariant in cc
