-- The lines so far, and the texts that are left, with their numbers.
use Rattle.std.proofs.Common.{◌≡◌, ◌++◌, ◌+◌, length}
use Rattle.casebook_explain.specs.Noting.{numbered}
use Rattle.casebook_explain.proofs.noting.numbered.Given as goal

abbrev pub invariant-loop-text : goal.invariant-loop-text
invariant-loop-text l = record {
  lines : l.lines.items ++ numbered (l.number + 1) l.text-iterator.rest.items
      ≡ numbered 1 l.fn.texts.items;
  count : l.number + length l.text-iterator.rest.items ≡ length l.fn.texts.items;
}
