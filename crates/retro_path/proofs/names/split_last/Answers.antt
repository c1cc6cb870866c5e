use Rattle.retro_path.proofs.Slashes.{split_at_last, root_text}
use Rattle.retro_path.proofs.names.split_last.Goals as goal

pub returns-in-Some : goal.returns-in-Some
returns-in-Some c =
    let found = c.in-Some.ensures.cases in
    split_at_last _ _ _ found.0 found.1 c.requires found.2 found.3 found.4

pub returns-in-None : goal.returns-in-None
returns-in-None c = root_text _ c.requires c.in-None.ensures.cases
