use Rattle.std.proofs.Common.{◌≡◌, drop}
use Rattle.std.specs.FinMap as map
use Rattle.retro_history.specs.inner.IndexSteps.{listed_by}
use Rattle.retro_history.proofs.Tracking.{AreAfter}
use Rattle.retro_history.proofs.history.History.of.Given as goal

abbrev pub invariant-loop-line : goal.invariant-loop-line
invariant-loop-line l = record {
  cells : AreAfter l.line-items l.first l.line-index l.index.cells;
  listed : listed_by (drop l.line-index l.line-items) l.index.listed ≡ listed_by l.line-items map.empty;
}
