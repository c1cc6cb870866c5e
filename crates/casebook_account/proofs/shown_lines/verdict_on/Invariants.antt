use Rattle.std.proofs.Common.{◌≡◌, drop}
use Rattle.casebook_account.specs.Shown.{verdict_on}
use Rattle.casebook_account.proofs.shown_lines.verdict_on.Given as goal

abbrev pub invariant-loop-text : goal.invariant-loop-text
invariant-loop-text l =
    verdict_on l.verdict (drop l.text-index l.texts) ≡ verdict_on l.verdict l.texts
