use Rattle.std.proofs.Common.{◌∙◌, ap, sym, subst}
use Rattle.serde_json.specs.Find.{get}
use Rattle.retro_value.specs.Borrowed.{value_data}
use Rattle.casebook_check.specs.Keys.{key_name, version_key}
use Rattle.casebook_check.specs.Place.{IsPlaceIn, anywhere, value}
use Rattle.casebook_check.specs.declared.key.Key.{Key}
use Rattle.casebook_check.specs.declared.key.Key.TheVariants as keys
use Rattle.casebook_check.specs.declared.place.Place.TheVariants as places
use Rattle.casebook_check.proofs.Lists.{version_refused}
use Rattle.casebook_check.proofs.versions.version_place.Goals as goal

pub returns-then-is_version_refused : goal.returns-then-is_version_refused
returns-then-is_version_refused c =
    let at = value_data c.in-Some.version.now in
    let there = ap (λ key. get (key_name key) (value_data c.args.value.now)) (sym c.version_key.ensures)
    ∙ sym c.in-Some.ensures in
    subst (λ (key : Key). IsPlaceIn c.args.kind (value_data c.args.value.now) c.args.refusal (places.Value key))
    (sym c.version_key-then-is_version_refused.ensures)
    (value {key = version_key c.args.kind} at there
    (version_refused c.args.kind at c.args.refusal (c.is_version_refused.ensures c.if-is_version_refused.true)))

pub returns-then-is_number_refused : goal.returns-then-is_number_refused
returns-then-is_number_refused c =
    value {key = keys.From} (value_data c.in-Some-member_at.from.now) (sym c.in-Some-member_at.ensures)
    (c.is_number_refused.ensures c.if-is_number_refused.true)

pub returns : goal.returns
returns c = anywhere
