use Rattle.std.proofs.Common.{arith}
use Rattle.casebook_screen.specs.Diffs.{IsPathDiff}
use Rattle.casebook_summary.specs.declared.restoration.Restoration.{Restoration}
use Rattle.casebook_screen.proofs.Parting.{parts_all, parts_more}
use Rattle.casebook_screen.proofs.diff_text.path_diffs.Goals as goal

pub loop-restoration-preserved : goal.loop-restoration-preserved
loop-restoration-preserved c rest after =
    rw c.in_ok-append.ensures.items
    (parts_more (λ (x : Restoration). IsPathDiff c.args.before.now c.args.after.now x.path) c.args.restorations.now
    c.loop-restoration.restoration-index c.restoration-item.result c.loop-restoration.lines.items c.in_ok-path_diff.field-0.items
    c.loop-restoration-test.true c.restoration-item.is c.in_ok-path_diff.ensures c.loop-restoration.invariant rest after)

pub returns : goal.returns
returns c =
    parts_all (λ (x : Restoration). IsPathDiff c.args.before.now c.args.after.now x.path) c.args.restorations.now
    c.loop-restoration.restoration-index c.loop-restoration.lines.items (omega (arith, c.loop-restoration-test.false)) c.loop-restoration.invariant
