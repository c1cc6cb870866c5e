use Rattle.std.proofs.Common.{◌≡◌, ◌++◌}
use Rattle.std.specs.FinMap as map_of
use Rattle.std.specs.Vec.Iter.{into_iter_items}
use Rattle.retro_keep.specs.Edit.{edited}
use Rattle.retro_keep.proofs.script.edit_lines.Given as goal

abbrev pub invariant-loop-line : goal.invariant-loop-line
invariant-loop-line l =
    (goal.iterator-loop-line).can_next l.line-iterator ×
    (goal.iterator-loop-line).is_finite l.line-iterator ×
    (l.done.items ++ edited (map_of.get l.edits) (into_iter_items l.line-iterator)
    ≡ edited (map_of.get l.edits) l.fn.lines.items)
