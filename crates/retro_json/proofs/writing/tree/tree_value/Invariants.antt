use Rattle.std.proofs.Common.{◌≡◌, ◌++◌, map, filter}
use Rattle.std.specs.FinMap.{entries}
use Rattle.std.specs.List.{list_all}
use Rattle.serde_json.specs.View.{view}
use Rattle.retro_json.specs.Values.{row_data, is_listed}
use Rattle.retro_json.specs.Typed.{entry_typed}
use Rattle.retro_json.proofs.writing.tree.tree_value.Given as goal

abbrev pub invariant-loop-path : goal.invariant-loop-path
invariant-loop-path l =
    (map view l.rows.items ++ map row_data (filter is_listed l.path-iterator) ≡ map row_data
    (filter is_listed (entries l.state.tree))) ×
    (list_all entry_typed (filter is_listed (entries l.state.tree))
    ≡ list_all entry_typed (filter is_listed l.path-iterator))
