-- The paths so far, and those of the changes that are left.
use Rattle.std.proofs.Common.{◌≡◌, ◌++◌}
use Rattle.std.specs.List.{filter}
use Rattle.std.specs.Vec.Iter.{into_iter_items}
use Rattle.casebook_compare.specs.inner.PathSets.{is_covered_by}
use Rattle.casebook_compare.proofs.coverage.Coverage.covered.Given as goal

abbrev pub invariant-loop-one : goal.invariant-loop-one
invariant-loop-one l =
    (goal.iterator-loop-one).can_next l.one-iterator × (goal.iterator-loop-one).is_finite l.one-iterator
    × (l.kept.items
    ++ filter (λ c. is_covered_by l.fn.self.at.now l.fn.self.skipped.keys c.path) (into_iter_items l.one-iterator)
    ≡ filter (λ c. is_covered_by l.fn.self.at.now l.fn.self.skipped.keys c.path) l.fn.changed.items)
