use Rattle.std.proofs.Common.{◌≡◌, ◌+◌, drop}
use Rattle.std.specs.List.{prefix_len}
use Rattle.casebook_account.specs.Shown.{is_line_below}
use Rattle.casebook_account.proofs.shown_lines.count_below.Given as goal

abbrev pub invariant-loop-index : goal.invariant-loop-index
invariant-loop-index l =
    l.index + prefix_len (is_line_below l.end) (drop l.index l.lines) ≡ prefix_len (is_line_below l.end) l.lines
