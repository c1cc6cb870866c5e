-- The repair of a log.
use Rattle.std.specs.Prelude.{List, ℕ}
use Rattle.retro_redo.specs.declared.repair.Repair.{Repair}
use Rattle.retro_rounds.specs.Refusals.{IsAccepted}
use Rattle.retro_cli.specs.Program.{IsRepairOf}
use Rattle.retro_cli.specs.Words.{RepairOptions}

-- the repair is one of the log in the input, for which nothing in the options is refused
pub record IsAcceptedRepair (options : RepairOptions) (input : List ℕ) (repair : Repair) : Type 0 where
  pub is_repair : IsRepairOf options.edits input repair
  pub accepted : IsAccepted options.workers options.cuts options.edits is_repair.recording
