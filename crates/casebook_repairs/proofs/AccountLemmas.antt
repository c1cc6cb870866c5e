-- Why the repair of an account isn't shown.
use Rattle.retro_redo.specs.declared.repair.Repair.{Repair}
use Rattle.casebook_account.specs.declared.account.Account.{Account}
use Rattle.casebook_request.specs.Request.{RepairRequest}
use Rattle.casebook_repairs.specs.Inputs.{InputsValue}
use Rattle.casebook_repairs.specs.Stops.{IsUnshownRepair, StopsRepaired}
use Rattle.casebook_repairs.specs.Stops.{is_unshown, out_of_memory}
use Rattle.casebook_repairs.specs.declared.stop.Stop.{Stop}

pub not_shown : (inputs : InputsValue) (request : RepairRequest) (account : Account) (repair : Repair) (stop : Stop)
    → IsUnshownRepair account repair inputs.log stop → StopsRepaired inputs request account stop
not_shown inputs request account repair stop (is_unshown h) = StopsRepaired.no_screen repair.recording h
not_shown inputs request account repair stop (out_of_memory e) = StopsRepaired.no_memory e
