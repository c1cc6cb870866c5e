-- The bytes so far, and what the rest of the text says.
use Rattle.std.proofs.Common.{◌≡◌, length}
use Rattle.std.specs.Prelude.{option_map}
use Rattle.casebook_declare.specs.Quoted.{said_from}
use Rattle.casebook_declare.proofs.Passed.{with_front}
use Rattle.casebook_declare.proofs.said.said_after.Given as goal

abbrev pub invariant-loop-rest : goal.invariant-loop-rest
invariant-loop-rest l =
    option_map (with_front l.value.items l.has_code) (said_from l.quoting 0 l.rest)
    ≡ said_from l.quoting 0 l.text

abbrev pub decreases-loop-rest : goal.decreases-loop-rest
decreases-loop-rest l = length l.rest
