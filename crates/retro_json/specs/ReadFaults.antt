-- Why a document whose text isn't read is refused.
use Rattle.retro_value.specs.declared.error.ReadError.{ReadError}
use Rattle.retro_value.specs.declared.error.ReadError.TheVariants as errors
use Rattle.retro_json.specs.declared.fault.LogFault.{LogFault}
use Rattle.retro_json.specs.declared.fault.LogFault.TheVariants as faults
use Rattle.retro_json.specs.declared.fault.Refusal.TheVariants.{NotJson}

abbrev pub fault_of_read : ReadError → LogFault
fault_of_read errors.NoMem = faults.NoMem
fault_of_read errors.NotJson = faults.Refused NotJson
