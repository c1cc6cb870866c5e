-- A report has no float, so its text is determined.
use Rattle.std.proofs.Common.{◌≡◌, ℕ, List, false, refl}
use Rattle.serde_json.specs.Written.{has_float}
use Rattle.retro_tree.specs.declared.state.State.{State}
use Rattle.retro_json.proofs.Floats.{array_float, tree_float, sessions_float}
use Rattle.retro_keep.specs.Recording.{RecordingValue}
use Rattle.retro_redo.specs.Repair.{compensations_in, met_numbers, numbers_with, repaired_outputs, repaired_state}
use Rattle.retro_redo.specs.declared.repair.Repair.{Repair}
use Rattle.retro_redo.specs.declared.verdict.Verdict.TheVariants.{Cancelled, Redone}
use Rattle.retro_json.specs.Values.{number_data}
use Rattle.retro_cli.specs.Report.{output_data, replay_data}
use Rattle.retro_cli.specs.RepairReport.{compensation_data, repair_data}

pub replay_float : (outputs : List (ℕ × List ℕ)) (state : State) → has_float (replay_data outputs state) ≡ false
unfolding replay_data
replay_float outputs state =
    rw (array_float output_data (λ o. refl) outputs, sessions_float state.sessions, tree_float state.tree) refl

pub repair_float : (recorded : RecordingValue) (repair : Repair) → has_float (repair_data recorded repair) ≡ false
unfolding repair_data
repair_float recorded repair =
    rw (
      array_float number_data (λ n. refl) (numbers_with Cancelled repair.lines.items),
      array_float compensation_data (λ c. refl) (compensations_in recorded repair),
      array_float number_data (λ n. refl) (met_numbers repair.lines.items),
      array_float output_data (λ o. refl) (repaired_outputs repair),
      array_float number_data (λ n. refl) (numbers_with Redone repair.lines.items),
      sessions_float (repaired_state repair).sessions,
      tree_float (repaired_state repair).tree,
    ) refl
