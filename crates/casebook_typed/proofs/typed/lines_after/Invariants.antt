-- The lines so far, and those of the observations that are left.
use Rattle.std.proofs.Common.{◌≡◌, ◌++◌, drop, map}
use Rattle.casebook_typed.specs.Lines.{lines_from, sights_before}
use Rattle.casebook_typed.specs.Seeing.{observed}
use Rattle.casebook_typed.specs.Values.{line_value}
use Rattle.casebook_typed.proofs.typed.lines_after.Given as goal

abbrev pub invariant-loop-at : goal.invariant-loop-at
invariant-loop-at l = record {
  sights : l.sights ≡ sights_before l.fn.first (map observed l.observations) l.at;
  so_far : map line_value l.lines.items
      ++ lines_from l.fn.first (map observed l.observations) l.at (drop l.at (map observed l.observations))
      ≡ lines_from l.fn.first (map observed l.observations) 0 (map observed l.observations);
}
