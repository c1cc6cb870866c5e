-- If the entries that are left have the observed values, all have.
use Rattle.std.specs.FinMap as map
use Rattle.retro_tree.specs.Commit.{committed}
use Rattle.casebook_stand_in.specs.Effect.{observed}
use Rattle.casebook_stand_in.specs.inner.Same.{AreSame}
use Rattle.casebook_stand_in.proofs.comparing.first_unlike.Given as goal

abbrev pub invariant-loop-cell : goal.invariant-loop-cell
invariant-loop-cell l =
    AreSame (committed l.cells l.state) (observed l.effect l.state) l.cell-iterator
    → AreSame (committed l.cells l.state) (observed l.effect l.state) (map.entries l.effect.cells)

abbrev pub invariant-loop-cell-2 : goal.invariant-loop-cell-2
invariant-loop-cell-2 l = record {
  seen : AreSame (committed l.cells l.state) (observed l.effect l.state) (map.entries l.effect.cells);
  rest : AreSame (committed l.cells l.state) (observed l.effect l.state) l.cell-iterator
      → AreSame (committed l.cells l.state) (observed l.effect l.state) (map.entries l.cells);
}
