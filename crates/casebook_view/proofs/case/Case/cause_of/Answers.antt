use Rattle.std.proofs.Common.{ap, ◌∙◌}
use Rattle.casebook_view.specs.inner.Cases.{CaseValue}
use Rattle.casebook_view.proofs.Failing.{cause_in_both}
use Rattle.casebook_view.proofs.case.Case.cause_of.Goals as goal

pub returns : goal.returns
returns c =
    let case = c.args.self.now in
    let of = c.self.invariant in
    cause_in_both case.recording c.self.inside.differences.recorded c.self.inside.differences.repaired case.repair
    c.args.number c.args.ask.now c.cause_of.result
    (of.recorded_is ∙ ap (λ (v : CaseValue). v.recording) c.self.view_is)
    (of.repaired_is ∙ ap (λ (v : CaseValue). v.repair.recording) c.self.view_is) c.cause_of.ensures.none
    c.cause_of.ensures.some
