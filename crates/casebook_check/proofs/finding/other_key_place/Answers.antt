use Rattle.std.proofs.Common.{◌≡◌, List, ℕ, subst}
use Rattle.retro_value.specs.Borrowed.{value_data}
use Rattle.retro_json.specs.declared.fault.Refusal.TheVariants.{UnknownKey}
use Rattle.casebook_check.specs.Place.{IsPlaceIn, anywhere, other_key}
use Rattle.casebook_check.specs.declared.place.Place.TheVariants as places
use Rattle.casebook_check.proofs.finding.other_key_place.Goals as goal

pub returns-in_ok-from_str-in-Some : goal.returns-in_ok-from_str-in-Some
returns-in_ok-from_str-in-Some c =
    let same : c.in-Some.key.now ≡ c.of.result = cc (c.of.ensures, c.in_ok-from_str-in-Some.ensures.ok) in
    subst (λ (key : List ℕ). IsPlaceIn c.args.kind (value_data c.args.value.now) UnknownKey (places.OtherKey key)) same
    (other_key c.in-Some.ensures.0 c.in-Some.ensures.1)

pub returns-in-None : goal.returns-in-None
returns-in-None c = anywhere
