-- The lines so far, and those that are left, whose first number and first text are known.
use Rattle.std.proofs.Common.{◌≡◌, ◌++◌, ◌+◌, length, map}
use Rattle.std.specs.Iterator.Adapters.{zip_first, zip_second}
use Rattle.std.specs.List.{sum_by}
use Rattle.std.specs.Slice.Iter.{iter_rest}
use Rattle.casebook_typed.specs.Values.{line_value}
use Rattle.casebook_account.specs.Machine.{machine_from, texts_of}
use Rattle.casebook_account.proofs.machine_line.machine_lines.Given as goal

abbrev pub invariant-loop-one : goal.invariant-loop-one
invariant-loop-one l = record {
  so_far : l.found.items
      ++ machine_from l.number l.first (iter_rest (zip_first l.one-iterator))
      (map line_value (iter_rest (zip_second l.one-iterator)))
      ≡ machine_from 1 1 l.told (map line_value l.lines);
  lines : l.number + length (iter_rest (zip_first l.one-iterator)) ≡ 1 + length l.told;
  texts : l.first + sum_by texts_of (iter_rest (zip_first l.one-iterator)) ≡ 1 + sum_by texts_of l.told;
}
