-- Which repairs are refused.
use Rattle.std.proofs.Common.{◌≡◌, ◌<◌, ◌≤◌, ℕ, true, false, None, Result, Ok, arith, nat_lt, refl}
use Rattle.retro_keep.specs.Recording.{RecordingValue}
use Rattle.retro_json.specs.declared.fault.Refusal.{Refusal}
use Rattle.retro_redo.specs.declared.repair_fault.RepairFault.{RepairFault}
use Rattle.retro_redo.specs.declared.repair_fault.RepairFault.TheVariants.{TwoEdits, NoSuchLine, NoCut, TooManyWorkers}
use Rattle.retro_redo.specs.declared.repair_fault.RepairFault.TheVariants.{BeforeCheckpoint, OutOfMemory}
use Rattle.retro_rounds.specs.Refusals.{IsAccepted, IsRefusal}
use Rattle.retro_rounds.specs.declared.rounds_request.TheConstants.{MAX_WORKERS}
use Rattle.retro_cli.specs.Program.{repair_refusal}
use Rattle.retro_cli.specs.Words.{RepairOptions}
use Rattle.retro_cli.specs.inner.Stop.{Refuses, stop_of_repair}
use Rattle.retro_cli.specs.declared.stop.Stop.{Stop}

few_workers : (workers : ℕ) → workers ≤ MAX_WORKERS → nat_lt MAX_WORKERS workers ≡ false
few_workers workers h = search (arith, h)

many_workers : (workers : ℕ) → MAX_WORKERS < workers → nat_lt MAX_WORKERS workers ≡ true
many_workers workers h = search (arith, h)

-- the fault of a repair stops the run as its request is refused
pub fault_refuses : (options : RepairOptions) (log : Result RecordingValue Refusal) (r : RecordingValue)
    (fault : RepairFault) (stop : Stop) → log ≡ Ok r
    → IsRefusal options.workers options.cuts options.edits r fault → stop ≡ stop_of_repair fault
    → Refuses stop (repair_refusal options log)
fault_refuses options log r TooManyWorkers stop is h given =
    rw (given, is, many_workers options.workers h) refl
fault_refuses options log r NoCut stop is h given =
    rw (given, is, few_workers options.workers h.0, h.1) refl
fault_refuses options log r (TwoEdits n) stop is h given =
    rw (given, is, few_workers options.workers h.0, h.1, h.2) refl
fault_refuses options log r (BeforeCheckpoint n) stop is h given =
    rw (given, is, few_workers options.workers h.0, h.1, h.2) refl
fault_refuses options log r (NoSuchLine n) stop is h given =
    rw (given, is, few_workers options.workers h.0, h.1, h.2) refl
fault_refuses options log r OutOfMemory stop is h given = rw given tt

-- nothing is refused of an accepted request
pub accepted_is_not_refused : (options : RepairOptions) (log : Result RecordingValue Refusal) (r : RecordingValue)
    → log ≡ Ok r → IsAccepted options.workers options.cuts options.edits r → repair_refusal options log ≡ None
accepted_is_not_refused options log r is h =
    rw (is, few_workers options.workers h.workers_are, h.cuts_are, h.edits_are) refl
