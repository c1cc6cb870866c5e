use Rattle.std.proofs.Common.{◌≡◌}
use Rattle.casebook_page.proofs.block.push_lines.Given as goal

abbrev pub invariant-loop-line : goal.invariant-loop-line
invariant-loop-line l = l.html ≡ l.fn.html
