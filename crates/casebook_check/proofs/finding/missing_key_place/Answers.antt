use Rattle.std.proofs.Common.{◌∙◌, ap, sym}
use Rattle.json.proofs.Trees.{view-Object}
use Rattle.serde_json.specs.Find.{as_object}
use Rattle.retro_value.specs.Borrowed.{data_of, value_data}
use Rattle.casebook_check.specs.Place.{anywhere, missing_key}
use Rattle.casebook_check.proofs.finding.missing_key_place.Goals as goal

pub returns-in-Object-Some : goal.returns-in-Object-Some
returns-in-Object-Some c =
    missing_key _ (ap (λ v. as_object (value_data v)) c.in-Object-Some.is-0
    ∙ ap (λ j. as_object (data_of j)) (view-Object c.in-Object-Some.field-0-0))
    (sym c.missing_key.ensures ∙ c.in-Object-Some.is-1)

pub returns-in_default : goal.returns-in_default
returns-in_default c = anywhere
