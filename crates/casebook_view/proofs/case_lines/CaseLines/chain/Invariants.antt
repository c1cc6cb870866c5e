-- The causes so far, and those that are left.
use Rattle.std.proofs.Common.{◌≡◌, ◌++◌}
use Rattle.casebook_view.specs.Reasons.{chain_from, chain_of}
use Rattle.casebook_view.proofs.case_lines.CaseLines.chain.Given as goal

abbrev pub invariant-loop-left : goal.invariant-loop-left
invariant-loop-left l = l.chain.items ++ chain_from l.left l.self l.at ≡ chain_of l.self l.number

abbrev pub decreases-loop-left : goal.decreases-loop-left
decreases-loop-left l = l.left
