use Rattle.std.proofs.Common.{◌≡◌, map, take}
use Rattle.casebook_about.specs.Rows.{time_view}
use Rattle.casebook_repairs.specs.Labels.{line_time}
use Rattle.casebook_repairs.proofs.labels.own_times.Given as goal

abbrev pub invariant-loop-line : goal.invariant-loop-line
invariant-loop-line l = map time_view l.times.items ≡ map line_time (take l.line-index l.lines)
