use Rattle.std.proofs.Common.{rules}
use Rattle.casebook_needs.proofs.BelowPrefixes.{set_more}
use Rattle.casebook_needs.proofs.below.set_of.Goals as goal

pub loop-path-preserved : goal.loop-path-preserved
loop-path-preserved c =
    set_more c.loop-path.set c.insert.new.self c.args.paths.now c.loop-path.path-index
    c.in_ok-copy.field-0
    (search rules) (search rules) (c.in_ok-insert.ensures.updates.0) c.loop-path.invariant
