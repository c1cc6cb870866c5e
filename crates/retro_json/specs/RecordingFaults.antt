-- The refusals that are reported if lines don't make a script, or if a state and lines don't make a
-- recording.
use Rattle.retro_keep.specs.declared.script.LinesFault.{LinesFault}
use Rattle.retro_keep.specs.declared.script.LinesFault.TheVariants as lines_faults
use Rattle.retro_keep.specs.declared.recording_fault.RecordingFault.{RecordingFault}
use Rattle.retro_keep.specs.declared.recording_fault.RecordingFault.TheVariants as recording
use Rattle.retro_json.specs.declared.fault.LogFault.{LogFault}
use Rattle.retro_json.specs.declared.fault.LogFault.TheVariants.{NoMem, Refused}
use Rattle.retro_json.specs.declared.fault.Refusal.{Refusal}
use Rattle.retro_json.specs.declared.fault.Refusal.TheVariants.{LawlessTree, NumbersNotRising, UnknownSession}

abbrev pub recording_fault : RecordingFault → LogFault
recording_fault recording.NumbersNotRising = Refused NumbersNotRising
recording_fault recording.UnknownSession = Refused UnknownSession
recording_fault recording.LawlessChange = Refused LawlessTree
recording_fault recording.NoMem = NoMem

abbrev pub lines_refusal : LinesFault → Refusal
lines_refusal lines_faults.NumbersNotRising = NumbersNotRising
lines_refusal lines_faults.UnknownSession = UnknownSession
