-- The paths so far, and those of the changes that are left.
use Rattle.std.proofs.Common.{◌≡◌, ◌++◌, map}
use Rattle.std.specs.List.{filter}
use Rattle.std.specs.Vec.Iter.{into_iter_items}
use Rattle.casebook_changes.specs.ChangedPaths.{path_in}
use Rattle.casebook_restore.specs.Choices.{is_wanted}
use Rattle.casebook_restore.proofs.choosing.Choice.wanted.Given as goal

abbrev pub invariant-loop-one : goal.invariant-loop-one
invariant-loop-one l =
    (goal.iterator-loop-one).can_next l.one-iterator × (goal.iterator-loop-one).is_finite l.one-iterator
    × (l.paths.items
    ++ map path_in (filter
    (λ c. is_wanted l.fn.self.repaired.now l.fn.self.at.now l.fn.self.only.now c.path)
    (into_iter_items l.one-iterator))
    ≡ map path_in (filter
    (λ c. is_wanted l.fn.self.repaired.now l.fn.self.at.now l.fn.self.only.now c.path) l.fn.changed.items))
