use Rattle.std.proofs.Common.{◌≡◌, ◌++◌, drop}
use Rattle.casebook_account.specs.Shown.{settled_from}
use Rattle.casebook_account.proofs.shown_lines.settled_from.Given as goal

abbrev pub invariant-loop-line : goal.invariant-loop-line
invariant-loop-line l =
    l.settled.items ++ settled_from (drop l.line-index l.lines) l.rest ≡ settled_from l.lines l.texts
