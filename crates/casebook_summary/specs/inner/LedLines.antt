-- The lines that are run again because of others, as a map has them.
use Rattle.std.specs.Prelude.{ℕ, ◌==◌, Bool, List, [], Option, Some, None, if◌then◌else◌}
use Rattle.std.specs.BTreeMap.{get}
use Rattle.std.specs.Option.{option_map, unwrap_or}
use Rattle.std.specs.Ordering.{nat_cmp}
use Rattle.casebook_view.specs.declared.case_line.CaseLine.{CaseLine}
use Rattle.casebook_view.specs.declared.reason.Reason.{Reason}
use Rattle.casebook_summary.specs.declared.led_lines.LedLines.{LedLines}

-- the line at which a chain ends that begins at a line, if it is another one
abbrev pub other_origin : ℕ → Option Reason → Option ℕ
other_origin n None = None
other_origin n (Some reason) = if n == reason.origin then None else Some reason.origin

-- whether a line that led to another one is the one with a number
abbrev pub is_from : ℕ → ℕ → CaseLine → Bool
is_from origin n line = origin == n

-- the lines to which the one with a number led
abbrev pub led_at : LedLines → ℕ → List CaseLine
led_at led n = unwrap_or (option_map (λ v. v.items) (get nat_cmp led.by_origin n)) []
