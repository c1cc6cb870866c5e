use Rattle.std.proofs.Common.{◌∙◌, sym}
use Rattle.casebook_summary.proofs.PathSets.{added_path, known_path}
use Rattle.casebook_summary.proofs.path_set.PathSet.add.Goals as goal

pub returns-in_ok-insert : goal.returns-in_ok-insert
returns-in_ok-insert c =
    added_path c.args.self.now.paths.keys c.insert.new.self.keys c.args.path.now c.in_ok-copy.field-0
    c.in_ok-copy.ensures c.in_ok-insert.ensures.updates.0

pub returns-else-not-contains : goal.returns-else-not-contains
returns-else-not-contains c =
    known_path c.args.self.now.paths.keys c.args.path.now (sym c.contains.ensures ∙ c.if-not-contains.false)
