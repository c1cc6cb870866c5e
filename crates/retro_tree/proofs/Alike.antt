-- Texts that resolve alike in every directory, for crates above.
use Rattle.retro_path.proofs.Alike.{resolve_alike}

pub ruleset alike = (resolve_alike)
