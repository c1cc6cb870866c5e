use Rattle.std.proofs.Common.{◌≡◌, ◌++◌, map}
use Rattle.casebook_snapshot.specs.inner.Placing.{moved_to}
use Rattle.casebook_snapshot.proofs.placed.moved.Given as goal

abbrev pub invariant-loop-child : goal.invariant-loop-child
invariant-loop-child l =
    l.moved.items ++ map (moved_to l.path) l.child-iterator.rest.items ≡ map (moved_to l.path) l.fn.children.items
