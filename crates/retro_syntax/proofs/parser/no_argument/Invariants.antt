use Rattle.std.proofs.Common.{◌≡◌, map, length}
use Rattle.retro_syntax.specs.Parsing as M
use Rattle.retro_syntax.specs.View.{item_view}
use Rattle.retro_syntax.proofs.parser.no_argument.Given as goal

abbrev pub invariant-loop-rest : goal.invariant-loop-rest
invariant-loop-rest l = M.no_argument (map item_view l.rest) ≡ M.no_argument (map item_view l.items)

abbrev pub decreases-loop-rest : goal.decreases-loop-rest
decreases-loop-rest l = length l.rest
