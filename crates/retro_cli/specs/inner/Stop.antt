-- What stops a run, by the faults of its parts.
use Rattle.std.specs.Prelude.{◌≡◌, ℕ, Option, Some, None, Result, Ok, Err}
use Rattle.retro_tree.specs.OutOfMemory.{UnlessOutOfMemory}
use Rattle.retro_keep.specs.declared.edit_fault.EditFault.{EditFault}
use Rattle.retro_keep.specs.declared.edit_fault.EditFault.TheVariants as edits
use Rattle.retro_keep.specs.declared.trim_fault.TrimFault.{TrimFault}
use Rattle.retro_keep.specs.declared.trim_fault.TrimFault.TheVariants as trims
use Rattle.retro_json.specs.Numbers.{refusal_number}
use Rattle.retro_json.specs.declared.fault.LogFault.{LogFault}
use Rattle.retro_json.specs.declared.fault.LogFault.TheVariants as documents
use Rattle.retro_redo.specs.RepairFault.{fault_number}
use Rattle.retro_redo.specs.declared.repair_fault.RepairFault.{RepairFault}
use Rattle.retro_redo.specs.declared.repair_fault.RepairFault.TheVariants as repairs
use Rattle.retro_cli.specs.declared.stop.TheConstants.{BAD_WORDS, BEFORE_CHECKPOINT, TWO_EDITS, UNKNOWN_LINE}
use Rattle.retro_cli.specs.declared.stop.Stop.{Stop}
use Rattle.retro_cli.specs.declared.stop.Stop.TheVariants as stops
use Rattle.retro_cli.specs.declared.words.WordsFault.{WordsFault}
use Rattle.retro_cli.specs.declared.words.WordsFault.TheVariants as words

abbrev pub stop_of_words : WordsFault → Stop
stop_of_words words.NoMem = stops.NoMem
stop_of_words words.BadWords = stops.Refused BAD_WORDS

abbrev pub stop_of_document : LogFault → Stop
stop_of_document documents.NoMem = stops.NoMem
stop_of_document (documents.Refused refusal) = stops.Refused (refusal_number refusal)

abbrev pub stop_of_edit : EditFault → Stop
stop_of_edit edits.NoMem = stops.NoMem
stop_of_edit (edits.TwoEdits number) = stops.Refused TWO_EDITS
stop_of_edit (edits.NoSuchLine number) = stops.Refused UNKNOWN_LINE

abbrev pub stop_of_repair : RepairFault → Stop
stop_of_repair (repairs.TwoEdits number) = stops.Refused (fault_number (repairs.TwoEdits number))
stop_of_repair (repairs.BeforeCheckpoint number) =
    stops.Refused (fault_number (repairs.BeforeCheckpoint number))
stop_of_repair (repairs.NoSuchLine number) = stops.Refused (fault_number (repairs.NoSuchLine number))
stop_of_repair repairs.NoCut = stops.Refused (fault_number repairs.NoCut)
stop_of_repair repairs.TooManyWorkers = stops.Refused (fault_number repairs.TooManyWorkers)
stop_of_repair repairs.OutOfMemory = stops.NoMem

abbrev pub stop_of_trim : TrimFault → Stop
stop_of_trim trims.NoMem = stops.NoMem
stop_of_trim trims.BeforeCheckpoint = stops.Refused BEFORE_CHECKPOINT

-- a stop says that a request is refused by a number, unless memory ran out
abbrev pub Refuses : Stop → Option ℕ → Type 0
Refuses stops.NoMem refusal = Unit {0}
Refuses (stops.Refused number) refusal = refusal ≡ Some number
Refuses stops.ReadFailed refusal = ⊥
Refuses stops.WriteFailed refusal = ⊥

-- the refusal or failure of a stop, or None if memory ran out
abbrev pub refused : {Y : Type 0} → Stop → Option (Result Y Stop)
refused stops.NoMem = None
refused (stops.Refused number) = Some (Err (stops.Refused number))
refused stops.ReadFailed = Some (Err stops.ReadFailed)
refused stops.WriteFailed = Some (Err stops.WriteFailed)

abbrev pub with_stops : {Y : Type 0} → Result Y ℕ → Result Y Stop
with_stops (Ok y) = Ok y
with_stops (Err number) = Err (stops.Refused number)

-- an answer, or the number of a refusal
abbrev pub ReturnsAs : {X Y : Type 0} → (X → Y) → Result X Stop → Result Y ℕ → Type 0
ReturnsAs value result meant = UnlessOutOfMemory (λ x. Ok (value x)) refused result (with_stops meant)
