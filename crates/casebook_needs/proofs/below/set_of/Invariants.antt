-- The set has the paths so far.
use Rattle.std.proofs.Common.{take}
use Rattle.casebook_needs.specs.inner.Sets.{HasPaths}
use Rattle.casebook_needs.proofs.below.set_of.Given as goal

abbrev pub invariant-loop-path : goal.invariant-loop-path
invariant-loop-path l = HasPaths l.set (take l.path-index l.paths)
