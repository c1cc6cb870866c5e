use Rattle.std.proofs.Common.{◌≡◌, length, map}
use Rattle.retro_syntax.specs.Words as M
use Rattle.retro_syntax.specs.View.{piece_view}
use Rattle.retro_syntax.proofs.words.has_unquoted_colon_tilde.Given as goal

abbrev pub invariant-loop-rest : goal.invariant-loop-rest
invariant-loop-rest l = M.has_unquoted_colon_tilde (map piece_view l.rest) ≡ M.has_unquoted_colon_tilde
    (map piece_view l.pieces)

abbrev pub decreases-loop-rest : goal.decreases-loop-rest
decreases-loop-rest l = length l.rest
