-- The paths so far, and those of the changes that are left.
use Rattle.std.proofs.Common.{◌≡◌, ◌++◌, drop, map}
use Rattle.std.specs.List.{filter}
use Rattle.casebook_restore.specs.Choices.{is_missed, unkept_at}
use Rattle.casebook_restore.proofs.choosing.Choice.unkept.Given as goal

abbrev pub invariant-loop-one : goal.invariant-loop-one
invariant-loop-one l =
    l.found.items
    ++ map (unkept_at l.self.repaired.now) (filter (is_missed l.self.repaired.now l.self.at.now
    l.self.only.now) (drop l.one-index l.changed))
    ≡ map (unkept_at l.self.repaired.now) (filter (is_missed l.self.repaired.now l.self.at.now
    l.self.only.now) l.changed)
