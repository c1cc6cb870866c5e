use Rattle.std.proofs.Common.{arith}
use Rattle.casebook_summary.proofs.Restoring.{all_found}
use Rattle.casebook_summary.proofs.restoration.restorations_at.Goals as goal

pub returns : goal.returns
returns c =
    all_found c.args.case.now.recording c.args.case.now.repair c.args.written.now.paths.keys c.args.changed.now
    c.loop-path.path-index c.loop-path.found.items (omega arith) c.loop-path.invariant
