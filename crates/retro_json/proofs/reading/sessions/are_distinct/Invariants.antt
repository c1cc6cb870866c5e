use Rattle.std.proofs.Common.{map, drop}
use Rattle.retro_json.specs.Keyed.{keys_of}
use Rattle.retro_json.specs.Views.{row_view}
use Rattle.retro_json.proofs.Keyed.{IsGathered}
use Rattle.retro_json.proofs.reading.sessions.are_distinct.Given as goal

abbrev pub invariant-loop-row : goal.invariant-loop-row
invariant-loop-row l =
    IsGathered (keys_of (map row_view l.rows)) (keys_of (map row_view (drop l.row-index l.rows))) l.sids
