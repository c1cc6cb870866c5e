-- The lines of a recording with a repair, in order of their numbers.
use Rattle.std.specs.Prelude.{ℕ, List, Option, Some, None, option_map}
use Rattle.casebook_usage.specs.declared.obstacle.Obstacle.{Obstacle}
use Rattle.casebook_view.specs.ByNumber.{with_number}
use Rattle.casebook_view.specs.declared.case_line.CaseLine.{CaseLine}
use Rattle.casebook_view.specs.declared.fate.Fate.{Fate}
use Rattle.casebook_view.specs.declared.reason.Reason.{Reason}

abbrev pub line_number : CaseLine → ℕ
line_number line = line.number

-- the line with a number, or None if there is none
abbrev pub line_at : ℕ → List CaseLine → Option CaseLine
line_at n lines = with_number line_number n lines

-- what becomes of the line with a number, or None if there is no such line
abbrev pub fate_at : ℕ → List CaseLine → Option Fate
fate_at n lines = option_map (λ line. line.fate) (line_at n lines)

-- why the line with a number isn't understood or has to be run for real, if one of these is so
abbrev pub obstacle_in : Option CaseLine → Option Obstacle
obstacle_in None = None
obstacle_in (Some line) = line.obstacle

abbrev pub obstacle_at : ℕ → List CaseLine → Option Obstacle
obstacle_at n lines = obstacle_in (line_at n lines)

-- why a line is run again, if it is
abbrev pub reason_in : Option CaseLine → Option Reason
reason_in None = None
reason_in (Some line) = line.reason

abbrev pub reason_at : ℕ → List CaseLine → Option Reason
reason_at n lines = reason_in (line_at n lines)
