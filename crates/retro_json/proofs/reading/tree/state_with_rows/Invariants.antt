use Rattle.std.proofs.Common.{◌≡◌, ◌∷◌}
use Rattle.std.specs.FinMap.{empty}
use Rattle.std.specs.Vec.Iter.{into_iter_items}
use Rattle.retro_tree.specs.Order.{path_cmp}
use Rattle.retro_json.specs.TreePart.{root_entry}
use Rattle.retro_json.proofs.Keyed.{IsMade}
use Rattle.retro_json.proofs.reading.tree.state_with_rows.Given as goal

abbrev pub invariant-loop-row : goal.invariant-loop-row
invariant-loop-row l =
    (goal.iterator-loop-row).can_next l.row-iterator ×
    (goal.iterator-loop-row).is_finite l.row-iterator ×
    IsMade {R = path_cmp} (root_entry ∷ l.fn.rows.items) (into_iter_items l.row-iterator) l.state.tree ×
    (l.state.sessions ≡ empty)
