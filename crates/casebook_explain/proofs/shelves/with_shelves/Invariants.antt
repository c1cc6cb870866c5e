-- The shelves of the lines that are left, in the state so far, and how many lines there were.
use Rattle.std.proofs.Common.{◌≡◌, ◌+◌, drop}
use Rattle.casebook_explain.specs.Shelves.{with_shelves}
use Rattle.casebook_explain.proofs.shelves.with_shelves.Given as goal

abbrev pub invariant-loop-seen : goal.invariant-loop-seen
invariant-loop-seen l = record {
  count : l.line ≡ l.seen-index;
  so_far : with_shelves (l.line + 1) (drop l.seen-index l.lines) l.now l.state
      ≡ with_shelves 1 l.lines l.first l.first;
}
