use Rattle.casebook_watch.proofs.Looks.{changed_or_gone}
use Rattle.casebook_watch.proofs.laws.no_path_is_changed_and_gone.Goals as goal

pub returns : goal.returns
returns c = changed_or_gone
