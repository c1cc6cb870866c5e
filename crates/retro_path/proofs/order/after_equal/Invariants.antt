use Rattle.std.proofs.Common.{◌≡◌, length}
use Rattle.std.specs.Cmp.Lexicographic.{slice_cmp}
use Rattle.retro_path.specs.inner.PathText.{slash_first}
use Rattle.retro_path.proofs.order.after_equal.Given as goal

abbrev pub invariant-loop-x : goal.invariant-loop-x
invariant-loop-x g l = slice_cmp slash_first l.left l.right ≡ slice_cmp slash_first l.fn.a l.fn.b

abbrev pub decreases-loop-x : goal.decreases-loop-x
decreases-loop-x g l = length l.left
