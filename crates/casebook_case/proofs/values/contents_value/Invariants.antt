use Rattle.std.proofs.Common.{◌≡◌, ◌++◌, drop, map}
use Rattle.std.specs.List.{list_all}
use Rattle.serde_json.specs.View.{view}
use Rattle.retro_json.specs.Typed.{are_bytes}
use Rattle.retro_json.specs.Values.{hex_data}
use Rattle.casebook_case.proofs.values.contents_value.Given as goal

abbrev pub invariant-loop-bytes : goal.invariant-loop-bytes
invariant-loop-bytes l =
    (map view l.values.items ++ map hex_data (drop l.bytes-index l.contents) ≡ map hex_data l.contents) ×
    (list_all are_bytes l.contents ≡ list_all are_bytes (drop l.bytes-index l.contents))
