use Rattle.std.proofs.lemmas.Result.{IfErr-weaker, IfOk-weaker}
use Rattle.std.proofs.Common.{refl}
use Rattle.casebook_repairs.specs.Stops.{StopsLabels}
use Rattle.casebook_repairs.specs.Views.{document_view}
use Rattle.casebook_repairs.proofs.labels.known_of.Goals as goal

pub returns-in-Some-clause-labels : goal.returns-in-Some-clause-labels
returns-in-Some-clause-labels c =
    rw c.in-Some.is
    (IfOk-weaker c.add_about.result _ _
    (λ more h. record {
      own = c.in_ok-known.known.labels;
      are_own = c.in_ok-known.ensures.labels;
      more = h;
    })
    c.add_about.ensures.labels)

pub returns-in-Some-clause-err : goal.returns-in-Some-clause-err
returns-in-Some-clause-err c =
    rw c.in-Some.is
    (IfErr-weaker c.add_about.result _ _
    (λ stop h. StopsLabels.bad_about (document_view c.in-Some.document) refl h)
    c.add_about.ensures.err)
