use Rattle.std.proofs.Common.{◌≡◌, length}
use Rattle.casebook_declare.specs.Arrays.{is_bare}
use Rattle.casebook_declare.specs.Parts.{after_all}
use Rattle.casebook_declare.proofs.array.after_bare.Given as goal

abbrev pub invariant-loop-rest : goal.invariant-loop-rest
invariant-loop-rest l = after_all is_bare l.rest ≡ after_all is_bare l.text

abbrev pub decreases-loop-rest : goal.decreases-loop-rest
decreases-loop-rest l = length l.rest
