use Rattle.casebook_snapshot.proofs.Lawful.{lawful}
use Rattle.casebook_snapshot.proofs.laws.snapshots_are_lawful.Goals as goal

pub returns : goal.returns
returns c = λ f skip s i. lawful f skip s i
