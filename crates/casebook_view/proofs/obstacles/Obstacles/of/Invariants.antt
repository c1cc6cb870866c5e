-- The obstacles of the lines so far come before those of the lines that are left.
use Rattle.std.proofs.Common.{◌≡◌, ℕ, drop}
use Rattle.casebook_view.specs.Unknown.{first_obstacle, obstacle_at}
use Rattle.casebook_view.specs.Obstacles.{obstacle_of}
use Rattle.casebook_view.proofs.obstacles.Obstacles.of.Given as goal

abbrev pub invariant-loop-line : goal.invariant-loop-line
invariant-loop-line l =
    (n : ℕ) → first_obstacle (obstacle_of n l.obstacles) (obstacle_at n (drop l.line-index l.unknown))
    ≡ obstacle_at n l.unknown
