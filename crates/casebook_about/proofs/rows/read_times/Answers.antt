use Rattle.std.proofs.Common.{◌∙◌, sym}
use Rattle.serde_json.specs.View.{view}
use Rattle.casebook_about.specs.Rows.{time_row, time_view}
use Rattle.casebook_about.specs.declared.fault.Part.TheVariants as parts
use Rattle.casebook_about.proofs.RowLemmas.{loop_done, loop_ends, loop_goes_on}
use Rattle.casebook_about.proofs.rows.read_times.Goals as goal

pub returns-in-None : goal.returns-in-None
returns-in-None c =
    loop_ends parts.Lines time_row view time_view c.loop-row.times.items c.args.rows.now c.loop-row.row-index _
    c.row-item.result c.len.result
    c.loop-row-test.true c.row-item.is (sym c.in-None.ensures) (c.len.ensures ∙ c.loop-row.times.ok.0) c.loop-row.invariant

pub loop-row-preserved : goal.loop-row-preserved
loop-row-preserved c =
    loop_goes_on parts.Lines time_row view time_view c.loop-row.times.items c.push.new.self.items c.args.rows.now
    c.loop-row.row-index _ c.row-item.result c.in-Some.time
    c.loop-row-test.true c.row-item.is c.in_ok-push-in-Some.ensures.items (sym c.in-Some.ensures) c.loop-row.invariant

pub returns : goal.returns
returns c =
    loop_done parts.Lines time_row view time_view c.loop-row.times.items c.args.rows.now c.loop-row.row-index
    c.loop-row-test.false c.loop-row.invariant
