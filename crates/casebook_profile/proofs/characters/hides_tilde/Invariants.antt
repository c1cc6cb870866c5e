use Rattle.std.proofs.Common.{◌≡◌, length}
use Rattle.casebook_profile.specs.Characters as C
use Rattle.casebook_profile.proofs.characters.hides_tilde.Given as goal

abbrev pub invariant-loop-rest : goal.invariant-loop-rest
invariant-loop-rest l = C.hides_tilde l.rest ≡ C.hides_tilde l.text

abbrev pub decreases-loop-rest : goal.decreases-loop-rest
decreases-loop-rest l = length l.rest
