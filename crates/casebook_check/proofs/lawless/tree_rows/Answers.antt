use Rattle.retro_value.specs.Borrowed.{value_data}
use Rattle.retro_json.specs.ReadsAs.{seen}
use Rattle.retro_json.specs.TreePart.{row_of}
use Rattle.retro_json.proofs.Worst.{validating_done, validating_goes_on}
use Rattle.casebook_check.proofs.lawless.tree_rows.Goals as goal

pub loop-item-preserved : goal.loop-item-preserved
loop-item-preserved c =
    validating_goes_on row_of value_data (seen (λ v. v.items) c.loop-item.rows) (seen (λ v. v.items) c.in_ok-rows.rows)
    c.args.items.now c.loop-item.item-index _ c.item-item.result c.in_ok-row.row c.loop-item-test.true c.item-item.is
    c.in_ok-row.ensures c.in_ok-rows.ensures c.loop-item.invariant

pub returns : goal.returns
returns c =
    validating_done row_of value_data (seen (λ v. v.items) c.loop-item.rows) c.args.items.now c.loop-item.item-index
    c.loop-item-test.false c.loop-item.invariant
