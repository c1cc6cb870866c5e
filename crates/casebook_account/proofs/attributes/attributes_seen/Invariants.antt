-- What was seen so far, and what the lines left that are still to come.
use Rattle.std.proofs.Common.{◌≡◌, ◌++◌, map}
use Rattle.std.specs.Iterator.Adapters.{zip_first, zip_second}
use Rattle.std.specs.Slice.Iter.{iter_rest}
use Rattle.casebook_typed.specs.Values.{line_value}
use Rattle.casebook_account.specs.Attributes.{attributes_seen, lines_seen}
use Rattle.casebook_account.proofs.attributes.attributes_seen.Given as goal

abbrev pub invariant-loop-line : goal.invariant-loop-line
invariant-loop-line l =
    l.seen.items
    ++ lines_seen (iter_rest (zip_first l.line-iterator)) (map line_value (iter_rest (zip_second l.line-iterator)))
    ≡ attributes_seen l.first.said l.machine (map line_value l.lines)
