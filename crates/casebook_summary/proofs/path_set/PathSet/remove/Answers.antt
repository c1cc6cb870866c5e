use Rattle.casebook_summary.proofs.PathSets.{removed_path}
use Rattle.casebook_summary.proofs.path_set.PathSet.remove.Goals as goal

pub returns : goal.returns
returns c = removed_path c.args.self.now.paths.keys c.remove.new.self.keys c.args.path.now c.remove.ensures.updates.0
