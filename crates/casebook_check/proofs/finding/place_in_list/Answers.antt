use Rattle.std.proofs.Common.{map, sym, subst}
use Rattle.retro_value.specs.Borrowed.{value_data}
use Rattle.casebook_check.specs.Place.{IsPlaceIn, item}
use Rattle.casebook_check.specs.declared.place.Item.{Item}
use Rattle.casebook_check.specs.declared.place.Place.TheVariants as places
use Rattle.casebook_check.proofs.finding.place_in_list.Goals as goal

pub returns-in-Some-2 : goal.returns-in-Some-2
returns-in-Some-2 c =
    let first = rw c.in-Some-2.is at c.in_ok-index.ensures.first in
    subst (λ (at : Item). IsPlaceIn c.args.kind (value_data c.args.value.now) c.args.refusal (places.Item at))
    (sym c.item_at.ensures)
    (item c.args.key (map value_data c.in-Some.items.now) c.in-Some-2.index c.in-Some.ensures first)
