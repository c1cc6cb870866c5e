use Rattle.std.proofs.Common.{arith}
use Rattle.retro_redo.specs.Moments.{compensation_view}
use Rattle.casebook_screen.specs.Diffs.{IsOutputDiff}
use Rattle.casebook_screen.proofs.Parting.{parts_all, parts_next}
use Rattle.casebook_screen.proofs.diff_text.output_diffs.Goals as goal

pub loop-compensation-preserved : goal.loop-compensation-preserved
loop-compensation-preserved c rest after =
    rw c.in_ok-append.ensures.items
    (parts_next (λ x. IsOutputDiff (compensation_view x)) c.args.compensations.now
    c.loop-compensation.compensation-index _ c.loop-compensation.lines.items c.in_ok-output_diff.field-0.items
    c.loop-compensation-test.true c.in_ok-output_diff.ensures c.loop-compensation.invariant rest after)

pub returns : goal.returns
returns c =
    parts_all (λ x. IsOutputDiff (compensation_view x)) c.args.compensations.now
    c.loop-compensation.compensation-index c.loop-compensation.lines.items (omega (arith, c.loop-compensation-test.false))
    c.loop-compensation.invariant
