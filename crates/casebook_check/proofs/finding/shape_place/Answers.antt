use Rattle.std.proofs.Common.{sym}
use Rattle.retro_value.specs.Borrowed.{value_data}
use Rattle.casebook_check.specs.Place.{value}
use Rattle.casebook_check.proofs.finding.shape_place.Goals as goal

pub returns-in-Some : goal.returns-in-Some
returns-in-Some c =
    λ kind. value (value_data c.in-Some.list.now) (sym c.in-Some.ensures)
    (c.is_refused_shape.ensures c.if-is_refused_shape.true kind)
