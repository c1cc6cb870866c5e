use Rattle.std.proofs.Common.{sym}
use Rattle.retro_value.specs.Borrowed.{value_data}
use Rattle.casebook_check.specs.Place.{anywhere, value}
use Rattle.casebook_check.specs.declared.key.Key.TheVariants as keys
use Rattle.casebook_check.proofs.finding.lawless_place.Goals as goal

pub returns-then-lawless : goal.returns-then-lawless
returns-then-lawless c =
    λ kind. value {key = keys.Tree} (value_data c.in-Some.tree.now) (sym c.in-Some.ensures)
    (c.in_ok-lawless.ensures c.if-lawless.true)

pub returns-in_default : goal.returns-in_default
returns-in_default c = λ kind. anywhere

pub returns : goal.returns
returns c = λ kind. anywhere
