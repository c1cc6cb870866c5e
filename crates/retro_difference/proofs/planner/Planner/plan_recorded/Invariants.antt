-- What the loop keeps.
use Rattle.std.specs.FinMap as map
use Rattle.retro_difference.specs.inner.Plan.{IsPlan, Covers, AreEntries}
use Rattle.retro_difference.proofs.planner.Planner.plan_recorded.Given as goal

abbrev pub invariant-loop-cell : goal.invariant-loop-cell
invariant-loop-cell g l = record {
  plan : IsPlan l.self.overlay.now l.recorded l.chosen (g.C.Cells.state l.self.cells.now)
      l.plan.writes l.plan.removals.items;
  covers : Covers l.self.overlay.now l.recorded l.chosen (g.C.Cells.state l.self.cells.now)
      l.plan.writes l.plan.removals.items l.cell-iterator (map.entries l.chosen);
  found : AreEntries l.recorded l.cell-iterator;
}
