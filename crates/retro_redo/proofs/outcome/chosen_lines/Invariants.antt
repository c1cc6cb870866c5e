use Rattle.std.proofs.Common.{◌≡◌, ◌++◌, length}
use Rattle.std.specs.Iterator.Adapters.{zip_first, zip_second}
use Rattle.std.specs.Slice.Iter.{iter_rest}
use Rattle.std.specs.Vec.Iter.{into_iter_items, into_iter_len}
use Rattle.retro_redo.specs.Progress.{lines_chosen}
use Rattle.retro_redo.proofs.outcome.chosen_lines.Given as goal

abbrev pub invariant-loop-line : goal.invariant-loop-line
invariant-loop-line l = record {
  chosen :
      l.chosen.items
      ++ lines_chosen (iter_rest (zip_first l.line-iterator)) (into_iter_items (zip_second l.line-iterator))
      ≡ lines_chosen l.lines l.fn.choices.items;
  left : into_iter_len (zip_second l.line-iterator) ≡ length (into_iter_items (zip_second l.line-iterator));
}
