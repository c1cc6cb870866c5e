use Rattle.std.proofs.Common.{◌≡◌, ◌++◌, replicate}
use Rattle.casebook_text.proofs.safe_line.SafeLine.push_spaces.Given as goal

abbrev pub invariant-loop : goal.invariant-loop
invariant-loop l = l.self ≡ l.fn.self ++ replicate l.counter 32
