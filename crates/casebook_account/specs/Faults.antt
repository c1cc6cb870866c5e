-- Faults of the crates below, as those of an account.
use Rattle.retro_json.specs.declared.fault.LogFault.{LogFault}
use Rattle.retro_json.specs.declared.fault.LogFault.TheVariants as logs
use Rattle.casebook_recording.specs.declared.recording_fault.RecordingFault.{RecordingFault}
use Rattle.casebook_recording.specs.declared.recording_fault.RecordingFault.TheVariants as recordings
use Rattle.casebook_account.specs.declared.account_fault.AccountFault.{AccountFault}
use Rattle.casebook_account.specs.declared.account_fault.AccountFault.TheVariants as faults

abbrev pub of_log : LogFault → AccountFault
of_log logs.NoMem = faults.NoMem
of_log (logs.Refused refusal) = faults.Log refusal

abbrev pub of_recording : RecordingFault → AccountFault
of_recording recordings.NoMem = faults.NoMem
of_recording fault = faults.Case fault
