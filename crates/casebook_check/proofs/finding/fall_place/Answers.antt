use Rattle.std.proofs.Common.{ℕ, map, sym, subst}
use Rattle.retro_value.specs.Borrowed.{value_data}
use Rattle.retro_json.specs.declared.fault.Refusal.TheVariants.{NumbersNotRising}
use Rattle.casebook_check.specs.Items.{IsFall}
use Rattle.casebook_check.specs.Place.{IsPlaceIn, anywhere, fall}
use Rattle.casebook_check.specs.declared.place.Item.{Item}
use Rattle.casebook_check.specs.declared.place.Place.TheVariants as places
use Rattle.casebook_check.proofs.finding.fall_place.Goals as goal

pub returns-in_default : goal.returns-in_default
returns-in_default c = λ kind. anywhere

pub returns-in-Some-first_fall : goal.returns-in-Some-first_fall
returns-in-Some-first_fall c =
    let items = map value_data c.in-Some.items.now in
    let first = subst (λ (least : ℕ). IsFall least items c.in-Some-first_fall.index) c.least_number.ensures
    c.in-Some-first_fall.ensures.first in
    λ kind. subst (λ (at : Item). IsPlaceIn kind (value_data c.args.value.now) NumbersNotRising (places.Item at))
    (sym c.item_at.ensures) (fall items c.in-Some-first_fall.index c.in-Some.ensures first)

pub returns-in-None : goal.returns-in-None
returns-in-None c = λ kind. anywhere
