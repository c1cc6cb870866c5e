use Rattle.std.proofs.Common.{◌≡◌, ◌+◌, drop}
use Rattle.std.specs.List.{prefix_len}
use Rattle.casebook_account.specs.Shown.{is_below}
use Rattle.casebook_account.proofs.shown.count_below.Given as goal

abbrev pub invariant-loop-index : goal.invariant-loop-index
invariant-loop-index l =
    l.index + prefix_len (is_below l.end) (drop l.index l.lines) ≡ prefix_len (is_below l.end) l.lines
