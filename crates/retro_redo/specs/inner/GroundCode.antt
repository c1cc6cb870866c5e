-- The code of a ground.
use Rattle.std.specs.Prelude.{refl}
use Rattle.std.specs.Coded.{Coded, code_by, coded×}
use Rattle.std.specs.FinMap as map
use Rattle.retro_tree.specs.CellOrder.{coded_cell, coded_overlay_entry}
use Rattle.retro_tree.specs.Overlay.{OverlayMap}
use Rattle.retro_keep.specs.Recording.{RecordingValue}
use Rattle.retro_keep.specs.inner.EditCode.{coded_edits}
use Rattle.retro_keep.specs.inner.RecordingCode.{coded_recording}
use Rattle.retro_redo.specs.Editing.{EditMap}
use Rattle.retro_redo.specs.Ground.{GroundValue}

-- a ground is stored as its parts
abbrev pub coded_ground : Coded GroundValue
coded_ground =
    code_by (RecordingValue × (EditMap × OverlayMap))
    (coded× coded_recording (coded× coded_edits (map.code coded_cell coded_overlay_entry)))
    (λ g. (g.recording, (g.edits, g.overlay))) (λ p. record { recording = p.0; edits = p.1.0; overlay = p.1.1 })
    (λ _. refl)
