use Rattle.std.proofs.Common.{◌≡◌, ◌++◌, drop, map}
use Rattle.casebook_observe.specs.Notes.{due_changes}
use Rattle.casebook_observe.proofs.contents.due_changes.Given as goal

abbrev pub invariant-loop-change : goal.invariant-loop-change
invariant-loop-change l =
    map (λ change. change.now) l.due.items ++ due_changes l.before (drop l.change-index l.changes)
    ≡ due_changes l.before l.changes
