use Rattle.std.proofs.Common.{[], subst, sym}
use Rattle.casebook_about.specs.Labels.{no_labels}
use Rattle.casebook_repairs.specs.Labels.{AreTimesAdded}
use Rattle.casebook_repairs.proofs.labels.own_knowledge.Goals as goal

pub returns-in-None-clause-labels : goal.returns-in-None-clause-labels
returns-in-None-clause-labels c =
    rw c.in-None.is (subst (λ labels. AreTimesAdded [] no_labels labels) (sym c.none.ensures) AreTimesAdded.none)
