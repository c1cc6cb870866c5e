use Rattle.casebook_snapshot.proofs.Lawful.{apart, covered, exact}
use Rattle.casebook_snapshot.proofs.laws.snapshots_are_complete.Goals as goal

pub returns-clause-covered : goal.returns-clause-covered
returns-clause-covered c = λ f skip s t i q there. covered f skip s i t q there

pub returns-clause-apart : goal.returns-clause-apart
returns-clause-apart c = λ f skip s i q row below. apart f skip s i q row below

pub returns-clause-exact : goal.returns-clause-exact
returns-clause-exact c = λ f skip s i q h row. exact f skip s i q h row
