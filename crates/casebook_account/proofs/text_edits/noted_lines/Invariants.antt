use Rattle.std.proofs.Common.{◌≡◌, map, take}
use Rattle.casebook_account.specs.Edits.{noted_line}
use Rattle.casebook_account.proofs.text_edits.noted_lines.Given as goal

abbrev pub invariant-loop-line : goal.invariant-loop-line
invariant-loop-line l = l.found.items ≡ map noted_line (take l.line-index l.lines)
