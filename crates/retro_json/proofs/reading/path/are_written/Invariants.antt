use Rattle.std.proofs.Common.{◌≡◌, map, drop}
use Rattle.std.specs.List.{list_all}
use Rattle.retro_json.specs.PathText.{is_written_name}
use Rattle.retro_json.proofs.reading.path.are_written.Given as goal

abbrev pub invariant-loop-name : goal.invariant-loop-name
invariant-loop-name l =
    list_all is_written_name (map (λ name. name.now) l.names) ≡ list_all is_written_name
    (map (λ name. name.now) (drop l.name-index l.names))
