-- The diffs so far, before any of those that are left.
use Rattle.std.proofs.Common.{ℕ, List, ◌++◌, drop}
use Rattle.retro_redo.specs.Moments.{compensation_view}
use Rattle.casebook_screen.specs.Diffs.{AreParts, IsOutputDiff}
use Rattle.casebook_screen.proofs.diff_text.output_diffs.Given as goal

abbrev pub invariant-loop-compensation : goal.invariant-loop-compensation
invariant-loop-compensation l =
    (rest : List (List ℕ))
    → AreParts (λ c. IsOutputDiff (compensation_view c)) (drop l.compensation-index l.compensations) rest
    → AreParts (λ c. IsOutputDiff (compensation_view c)) l.compensations (l.lines.items ++ rest)
