use Rattle.retro_value.specs.Borrowed.{value_data}
use Rattle.retro_json.specs.LogFields.{name_field}
use Rattle.retro_json.specs.ReadsAs.{seen}
use Rattle.retro_json.proofs.Worst.{validating_starts, validating_goes_on, validating_done}
use Rattle.retro_json.proofs.reading.fields.read_names.Goals as goal

pub loop-item-init : goal.loop-item-init
loop-item-init c = rw c.new.ensures.items (validating_starts name_field value_data c.args.items.now)

pub loop-item-preserved : goal.loop-item-preserved
loop-item-preserved c =
    validating_goes_on name_field value_data (seen (λ v. v.items) c.loop-item.names) (seen (λ v. v.items) c.in_ok-names.names)
    c.args.items.now c.loop-item.item-index _ c.item-item.result c.in_ok-name.name c.loop-item-test.true c.item-item.is
    c.in_ok-name.ensures c.in_ok-names.ensures c.loop-item.invariant

pub returns : goal.returns
returns c =
    validating_done name_field value_data (seen (λ v. v.items) c.loop-item.names) c.args.items.now c.loop-item.item-index
    c.loop-item-test.false c.loop-item.invariant
