use Rattle.std.proofs.Common.{◌∙◌, sym}
use Rattle.retro_value.specs.Borrowed.{value_data}
use Rattle.casebook_snapshot_read.specs.Rows.{tree_row}
use Rattle.casebook_snapshot_read.specs.declared.fault.Part.TheVariants as parts
use Rattle.casebook_snapshot_read.proofs.RowLemmas.{loop_done, loop_ends, loop_goes_on}
use Rattle.casebook_snapshot_read.proofs.lists.read_tree.Goals as goal

pub returns-in-None : goal.returns-in-None
returns-in-None c =
    let none = rw c.in-None.is at c.in_ok-one.ensures in
    loop_ends parts.Tree tree_row value_data (λ row. row) c.loop-row.read.items c.args.rows.now c.loop-row.row-index _
    c.row-item.result c.len.result c.loop-row-test.true c.row-item.is (sym none)
    (c.len.ensures ∙ c.loop-row.read.ok.0) c.loop-row.invariant

pub loop-row-preserved : goal.loop-row-preserved
loop-row-preserved c =
    let some = rw c.in-Some.is at c.in_ok-one.ensures in
    loop_goes_on parts.Tree tree_row value_data (λ row. row) c.loop-row.read.items c.push.new.self.items c.args.rows.now
    c.loop-row.row-index _ c.row-item.result c.in-Some.one c.loop-row-test.true c.row-item.is
    c.in_ok-push-in-Some.ensures.items (sym some) c.loop-row.invariant

pub returns : goal.returns
returns c =
    loop_done parts.Tree tree_row value_data (λ row. row) c.loop-row.read.items c.args.rows.now c.loop-row.row-index
    c.loop-row-test.false c.loop-row.invariant
