-- What the loop keeps.
use Rattle.std.proofs.Common.{◌≡◌, drop}
use Rattle.retro_difference.specs.inner.Write.{without}
use Rattle.retro_difference.proofs.writing.remove_all.Given as goal

abbrev pub invariant-loop-cell : goal.invariant-loop-cell
invariant-loop-cell l = without (drop l.cell-index l.cells) l.overlay ≡ without l.cells l.fn.overlay
