use Rattle.std.proofs.Common.{◌≡◌, ◌++◌, drop, map}
use Rattle.std.specs.List.{list_all}
use Rattle.serde_json.specs.Data.{string}
use Rattle.serde_json.specs.View.{view}
use Rattle.retro_tree.specs.Name.{is_name}
use Rattle.retro_json.proofs.writing.notes.names_value.Given as goal

abbrev pub invariant-loop-name : goal.invariant-loop-name
invariant-loop-name l =
    (map view l.items.items ++ map string (drop l.name-index l.names) ≡ map string l.names) ×
    (list_all is_name l.names ≡ list_all is_name (drop l.name-index l.names))
