use Rattle.std.proofs.Common.{◌≡◌, length}
use Rattle.retro_syntax.specs.Words as M
use Rattle.retro_syntax.proofs.words.has_colon_tilde.Given as goal

abbrev pub invariant-loop-rest : goal.invariant-loop-rest
invariant-loop-rest l = M.has_colon_tilde l.rest ≡ M.has_colon_tilde l.text

abbrev pub decreases-loop-rest : goal.decreases-loop-rest
decreases-loop-rest l = length l.rest
