use Rattle.std.proofs.Common.{map, sym, subst}
use Rattle.retro_value.specs.Borrowed.{value_data}
use Rattle.retro_json.specs.declared.fault.Refusal.TheVariants.{UnknownSession}
use Rattle.casebook_check.specs.Place.{IsPlaceIn, anywhere, stranger}
use Rattle.casebook_check.specs.declared.place.Item.{Item}
use Rattle.casebook_check.specs.declared.place.Place.TheVariants as places
use Rattle.casebook_check.proofs.finding.stranger_place.Goals as goal

pub returns-in_default : goal.returns-in_default
returns-in_default c = λ kind. anywhere

pub returns-in-Some : goal.returns-in-Some
returns-in-Some c =
    let first = rw c.in-Some.is at c.in_ok-index.ensures.first in
    λ kind. subst (λ (at : Item). IsPlaceIn kind (value_data c.args.value.now) UnknownSession (places.Item at))
    (sym c.item_at.ensures)
    (stranger (map value_data c.in-Some-Some.rows.now) (map value_data c.in-Some-Some.items.now) c.in-Some.index
    c.in-Some-Some.ensures c.in-Some-Some.ensures' first)

pub returns-in-None : goal.returns-in-None
returns-in-None c = λ kind. anywhere
