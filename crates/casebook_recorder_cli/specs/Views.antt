-- The values of the code as the definitions have them.
use Rattle.std.specs.Prelude.{Option, Some, None, Result, Ok, Err, option_map}
use Rattle.retro_path.specs.OutOfMemory.{UnlessOutOfMemory}
use Rattle.casebook_recorder_cli.specs.Words.{ImportValue, ObserveValue, StartValue, StatusValue}
use Rattle.casebook_recorder_cli.specs.declared.request.ImportRequest.{ImportRequest}
use Rattle.casebook_recorder_cli.specs.declared.request.ObserveRequest.{ObserveRequest}
use Rattle.casebook_recorder_cli.specs.declared.request.RecorderProblem.{RecorderProblem}
use Rattle.casebook_recorder_cli.specs.declared.request.StartRequest.{StartRequest}
use Rattle.casebook_recorder_cli.specs.declared.request.StatusRequest.{StatusRequest}
use Rattle.casebook_recorder_cli.specs.declared.request.WordsFault.{WordsFault}
use Rattle.casebook_recorder_cli.specs.declared.request.WordsFault.TheVariants as faults

abbrev pub observe_view : ObserveRequest → ObserveValue
observe_view request = record { spool = request.spool.now }

abbrev pub start_view : StartRequest → StartValue
start_view request = record { spool = request.spool.now; folders = request.folders.items }

abbrev pub import_view : ImportRequest → ImportValue
import_view request = record { spool = request.spool.now }

abbrev pub status_view : StatusRequest → StatusValue
status_view request = record {
  spool = request.spool.now;
  who = option_map (λ s. s.now) request.who;
}

-- what a fault says of the words: what is wrong with them, or None if memory ran out
abbrev pub refused : {Y : Type 0} → WordsFault → Option (Result Y RecorderProblem)
refused faults.NoMem = None
refused (faults.Bad problem) = Some (Err problem)

-- the result is as defined, unless memory ran out
abbrev pub Means : {X Y : Type 0} → (X → Y) → Result X WordsFault → Result Y RecorderProblem → Type 0
Means view result meant = UnlessOutOfMemory (λ x. Ok (view x)) refused result meant
