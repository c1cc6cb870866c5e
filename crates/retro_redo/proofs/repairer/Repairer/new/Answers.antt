use Rattle.std.proofs.Common.{List, ap, sym, subst, []}
use Rattle.retro_difference.specs.Difference.{DifferenceValue}
use Rattle.retro_redo.specs.inner.Keeping.{Keeps}
use Rattle.retro_redo.specs.declared.step.Step.{Step}
use Rattle.retro_redo.specs.declared.verdict.SettledLine.{SettledLine}
use Rattle.retro_redo.proofs.Accepting.{accepted_lines}
use Rattle.retro_redo.proofs.Keeping.{keeps_new}
use Rattle.retro_redo.proofs.StepUses.{keeps_no_uses}
use Rattle.retro_redo.proofs.repairer.Repairer.new.Goals as goal

pub invariant_of-result : goal.invariant_of-result
invariant_of-result c =
    let known = accepted_lines c.in_ok-of.field-0 c.args.edits.now c.args.recording.now
    (sym c.in_ok-test_edits.ensures) c.in_ok-of.ensures in
    let overlay = ap (λ (d : DifferenceValue). d.overlay) c.none.ensures in
    let uses = ap (λ (d : DifferenceValue). d.uses) c.none.ensures in (
      subst (λ (steps : List Step). Keeps (record {
        recording = c.args.recording.now;
        edits = c.in_ok-of.field-0;
        choices = steps;
      }) c.none.result.overlay c.new-2.result.items) (sym c.new.ensures.items)
          (subst (λ (lines : List SettledLine). Keeps (record {
            recording = c.args.recording.now;
            edits = c.in_ok-of.field-0;
            choices = [];
          }) c.none.result.overlay lines) (sym c.new-2.ensures.items)
          (keeps_new c.args.recording.now c.in_ok-of.field-0 c.none.result.overlay known overlay)),
      keeps_no_uses c.none.result.overlay _ c.none.result.uses overlay uses,
      c.requires,
    )
