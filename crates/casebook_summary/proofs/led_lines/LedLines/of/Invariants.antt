-- The lines so far, and those of the lines that are left.
use Rattle.std.proofs.Common.{◌≡◌, ◌++◌, ℕ, drop}
use Rattle.std.specs.List.{filter}
use Rattle.casebook_summary.specs.Effects.{is_led_to}
use Rattle.casebook_summary.specs.inner.LedLines.{led_at}
use Rattle.casebook_summary.proofs.led_lines.LedLines.of.Given as goal

abbrev pub invariant-loop-line : goal.invariant-loop-line
invariant-loop-line l =
    (n : ℕ) → led_at l.led n ++ filter (is_led_to n) (drop l.line-index l.lines) ≡ filter (is_led_to n) l.lines
