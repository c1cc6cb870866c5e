use Rattle.std.proofs.Common.{map}
use Rattle.std.specs.Vec.Iter.{into_iter_items}
use Rattle.retro_json.specs.Views.{row_view}
use Rattle.retro_json.proofs.SessionRows.{IsAdded}
use Rattle.retro_json.proofs.reading.sessions.state_with_rows.Given as goal

abbrev pub invariant-loop-row : goal.invariant-loop-row
invariant-loop-row l =
    (goal.iterator-loop-row).can_next l.row-iterator ×
    (goal.iterator-loop-row).is_finite l.row-iterator ×
    IsAdded l.fn.state.tree (map row_view l.fn.rows.items) (map row_view (into_iter_items l.row-iterator)) l.whole
