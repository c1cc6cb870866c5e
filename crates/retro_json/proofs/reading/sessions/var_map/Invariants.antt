use Rattle.std.specs.FinMap.{from_entries}
use Rattle.std.specs.Vec.Iter.{into_iter_items}
use Rattle.retro_tree.specs.Order.{text_cmp}
use Rattle.retro_json.proofs.Keyed.{IsMade}
use Rattle.retro_json.proofs.reading.sessions.var_map.Given as goal

abbrev pub invariant-loop-var : goal.invariant-loop-var
invariant-loop-var l =
    (goal.iterator-loop-var).can_next l.var-iterator ×
    (goal.iterator-loop-var).is_finite l.var-iterator ×
    IsMade {R = text_cmp} l.fn.vars.items (into_iter_items l.var-iterator) (from_entries l.values.entries)
