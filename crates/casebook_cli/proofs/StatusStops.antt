-- Why it isn't said what a spool has.
use Rattle.std.proofs.Common.{◌≡◌, ℕ, List}
use Rattle.casebook_recording.specs.declared.recording_fault.RecordingFault.TheVariants as faults
use Rattle.casebook_cli.specs.Stops.{StopsTold}
use Rattle.casebook_repairs.specs.declared.stop.Stop.{Stop}
use Rattle.casebook_repairs.specs.declared.stop.Stop.TheVariants as stops

pub no_memory : (name text : List ℕ) (stop : Stop) → stop ≡ stops.OutOfMemory
    → StopsTold name text stop
no_memory name text stop is = record { fault = faults.NoMem; is_fault = tt; names = is }
