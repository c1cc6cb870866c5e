use Rattle.std.proofs.Common.{drop, map}
use Rattle.casebook_about.specs.Rows.{time_view}
use Rattle.casebook_about.specs.declared.labels.Labels.{Labels}
use Rattle.casebook_repairs.specs.Labels.{AreTimesAdded}
use Rattle.casebook_repairs.proofs.labels.add_times.Given as goal

abbrev pub invariant-loop-time : goal.invariant-loop-time
invariant-loop-time l =
    (new : Labels) → AreTimesAdded (map time_view (drop l.time-index l.times)) l.labels new
    → AreTimesAdded (map time_view l.times) l.fn.labels new
