use Rattle.std.proofs.Common.{map, sym, subst}
use Rattle.retro_value.specs.Borrowed.{value_data}
use Rattle.retro_json.specs.declared.fault.Part.TheVariants.{Sessions}
use Rattle.retro_json.specs.declared.fault.Refusal.TheVariants.{WrongShape}
use Rattle.casebook_check.specs.Place.{IsPlaceIn, anywhere, repeat}
use Rattle.casebook_check.specs.declared.place.Item.{Item}
use Rattle.casebook_check.specs.declared.place.Place.TheVariants as places
use Rattle.casebook_check.proofs.finding.repeat_place.Goals as goal

pub returns-in_default : goal.returns-in_default
returns-in_default c = λ kind. anywhere

pub returns-in-Some-2 : goal.returns-in-Some-2
returns-in-Some-2 c =
    let rows = map value_data c.in-Some.rows.now in
    let first = rw c.in-Some-2.is at c.in_ok-index.ensures.first in
    λ kind. subst (λ (at : Item). IsPlaceIn kind (value_data c.args.value.now) (WrongShape Sessions) (places.Item at))
    (sym c.item_at.ensures) (repeat rows c.in-Some-2.index c.in-Some.ensures first)

pub returns-in-None : goal.returns-in-None
returns-in-None c = λ kind. anywhere
