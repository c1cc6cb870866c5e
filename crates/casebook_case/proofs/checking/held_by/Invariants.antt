-- The bytes so far, and those that are left.
use Rattle.std.proofs.Common.{◌≡◌}
use Rattle.std.specs.Prelude.{fold}
use Rattle.casebook_case.specs.Cases.{held_by, with_content}
use Rattle.casebook_case.proofs.checking.held_by.Given as goal

abbrev pub invariant-loop-bytes : goal.invariant-loop-bytes
invariant-loop-bytes l =
    fold with_content l.held l.bytes-iterator.rest.items ≡ held_by l.fn.all.items
