-- The code of the history of a cell, which finite maps need.
use Rattle.std.specs.Prelude.{refl}
use Rattle.std.specs.Coded.{Coded, code_by, coded×}
use Rattle.retro_history.specs.inner.Tracks.{TrackValue}
use Rattle.retro_history.specs.inner.TrackCode.{coded_track}
use Rattle.retro_history.specs.declared.cell_history.CellHistory.{CellHistory}
use Rattle.retro_history.specs.declared.uses.Uses.{Uses}
use Rattle.retro_history.specs.contracts.uses.Uses as uses_type

abbrev pub coded_history : Coded CellHistory
coded_history =
    code_by (TrackValue × Uses) (coded× coded_track (uses_type.the_row).coded)
    (λ h. (h.track, h.uses)) (λ p. record { track = p.0; uses = p.1 }) (λ _. refl)
