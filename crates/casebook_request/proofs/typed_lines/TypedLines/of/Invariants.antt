-- The lines so far, with the times that are left.
use Rattle.std.proofs.Common.{◌≡◌, drop, fold, map}
use Rattle.casebook_about.specs.Rows.{time_view}
use Rattle.casebook_request.specs.Bounds.{typed_lines, with_time}
use Rattle.casebook_request.proofs.typed_lines.TypedLines.of.Given as goal

abbrev pub invariant-loop-time : goal.invariant-loop-time
invariant-loop-time l =
    fold (with_time l.bounds) l.found (map time_view (drop l.time-index l.times))
    ≡ typed_lines l.bounds (map time_view l.times)
