-- The bytes so far, and what the rest of the field is.
use Rattle.std.proofs.Common.{◌≡◌, ◌++◌, length}
use Rattle.casebook_host.specs.Escapes.{unescaped}
use Rattle.casebook_host.proofs.escape.unescaped.Given as goal

abbrev pub invariant-loop-rest : goal.invariant-loop-rest
invariant-loop-rest l = l.text.items ++ unescaped l.rest ≡ unescaped l.field

abbrev pub decreases-loop-rest : goal.decreases-loop-rest
decreases-loop-rest l = length l.rest
