use Rattle.std.proofs.Common.{◌≡◌, ◌++◌, ◌+◌, drop, map}
use Rattle.casebook_typed.specs.Values.{session_value}
use Rattle.casebook_account.specs.Lacks.{incomplete_from}
use Rattle.casebook_account.proofs.lacks.incomplete_of.Given as goal

abbrev pub invariant-loop-index : goal.invariant-loop-index
invariant-loop-index l =
    l.numbers.items ++ incomplete_from (l.index + 1) (map session_value (drop l.index l.sessions))
    ≡ incomplete_from 1 (map session_value l.sessions)
