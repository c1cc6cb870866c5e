-- The changes that are left lead to what all changes lead to.
use Rattle.std.proofs.Common.{◌≡◌, drop}
use Rattle.casebook_watch.specs.Delta.{after_changes}
use Rattle.casebook_watch.proofs.sights.Sights.updated.Given as goal

abbrev pub invariant-loop-change : goal.invariant-loop-change
invariant-loop-change l = after_changes l.sights (drop l.change-index l.changes)
    ≡ after_changes l.fn.self l.changes
