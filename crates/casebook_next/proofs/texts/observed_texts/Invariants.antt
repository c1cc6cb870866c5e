-- The numbers so far, and those of the lines that are left.
use Rattle.std.proofs.Common.{◌≡◌, ◌++◌, drop}
use Rattle.casebook_next.specs.Next.{observed_texts}
use Rattle.casebook_next.proofs.texts.observed_texts.Given as goal

abbrev pub invariant-loop-line : goal.invariant-loop-line
invariant-loop-line l = l.numbers.items ++ observed_texts (drop l.line-index l.lines) ≡ observed_texts l.lines
