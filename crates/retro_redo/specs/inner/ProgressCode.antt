-- The code of the progress of a repair.
use Rattle.std.specs.Prelude.{List, refl}
use Rattle.std.specs.Coded.{Coded, code_by, coded×, coded_list}
use Rattle.retro_keep.specs.Recording.{RecordingValue}
use Rattle.retro_keep.specs.inner.EditCode.{coded_edits}
use Rattle.retro_keep.specs.inner.RecordingCode.{coded_recording}
use Rattle.retro_redo.specs.Editing.{EditMap}
use Rattle.retro_redo.specs.Progress.{ProgressValue}
use Rattle.retro_redo.specs.contracts.step.Step as step_type
use Rattle.retro_redo.specs.declared.step.Step.{Step}

abbrev pub coded_step : Coded Step
coded_step = (step_type.the_row).coded

-- the progress is stored as its parts
abbrev pub coded_progress : Coded ProgressValue
coded_progress =
    code_by (RecordingValue × (EditMap × List Step))
    (coded× coded_recording (coded× coded_edits (coded_list coded_step)))
    (λ p. (p.recording, (p.edits, p.choices)))
    (λ p. record { recording = p.0; edits = p.1.0; choices = p.1.1 }) (λ _. refl)
