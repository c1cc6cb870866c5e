-- Exits: their statuses, and before which nothing was written.
use Rattle.std.specs.Prelude.{ℕ, Bool, true, false, if◌then◌else◌}
use Rattle.casebook_recorder_cli.specs.Faults.{is_refusal}
use Rattle.casebook_cli.specs.declared.exit.Exit.{Exit}
use Rattle.casebook_cli.specs.declared.exit.Exit.TheVariants as exits
use Rattle.casebook_repairs.specs.declared.stop.Stop.{Stop}
use Rattle.casebook_repairs.specs.declared.stop.Stop.TheVariants as stops

abbrev pub stop_status : Stop → ℕ
stop_status stops.OutOfMemory = 2
stop_status (stops.ReadFailed name hindrance) = 3
stop_status (stops.UndoFailed name) = 3
stop_status (stops.Unfinished name) = 3
stop_status (stops.Recorder name fault) = if is_refusal fault then 1 else 3
stop_status other = 1

abbrev pub status_of : Exit → ℕ
status_of exits.Done = 0
status_of exits.No = 4
status_of (exits.Stopped stop) = stop_status stop
status_of exits.WriteFailed = 3

-- whether nothing is written to the output before such an exit
abbrev pub writes_nothing : Exit → Bool
writes_nothing (exits.Stopped stop) = true
writes_nothing other = false
