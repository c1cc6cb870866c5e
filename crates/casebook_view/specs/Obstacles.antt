-- Obstacles of lines, as a map has them.
use Rattle.std.specs.Prelude.{◌≡◌, ℕ, List, Option}
use Rattle.std.specs.BTreeMap.{get}
use Rattle.std.specs.Ordering.{nat_cmp}
use Rattle.casebook_profile.specs.declared.unknown_line.UnknownLine.{UnknownLine}
use Rattle.casebook_usage.specs.declared.obstacle.Obstacle.{Obstacle}
use Rattle.casebook_view.specs.Unknown.{obstacle_at}
use Rattle.casebook_view.specs.declared.obstacles.Obstacles.{Obstacles}

-- the obstacle that a map has for a number
abbrev pub obstacle_of : ℕ → Obstacles → Option Obstacle
obstacle_of n obstacles = get nat_cmp obstacles.by_number n

-- A map has the obstacles of these lines.
abbrev pub AreObstacles : List UnknownLine → Obstacles → Type 0
AreObstacles unknown obstacles = (n : ℕ) → obstacle_of n obstacles ≡ obstacle_at n unknown
