use Rattle.std.proofs.Common.{◌≡◌, ◌++◌, drop}
use Rattle.casebook_account.specs.Shown.{shown_from}
use Rattle.casebook_account.proofs.shown.shown_from.Given as goal

abbrev pub invariant-loop-line : goal.invariant-loop-line
invariant-loop-line l =
    l.shown.items ++ shown_from l.recording (drop l.line-index l.lines) l.rest
    ≡ shown_from l.recording l.lines l.texts
