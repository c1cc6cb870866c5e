use Rattle.std.proofs.Common.{string_bytes}
use Rattle.casebook_text.proofs.ShownLines.{AreWrittenTo, all_written, fields_are_row, fields_split, next_field}
use Rattle.casebook_text.proofs.shown_rows.push_fields.Goals as goal

pub loop-index-preserved : goal.loop-index-preserved
loop-index-preserved c =
    next_field (string_bytes c.args.text.now) (string_bytes c.loop-index.text) (string_bytes c.push_field.new.text) c.args.fields.now
    c.loop-index.index c.index-fields-index.result c.loop-index-test.true c.loop-index.invariant c.index-fields-index.is
    c.in_ok-push_field.ensures.safe c.in_ok-push_field.ensures.value

pub returns-clause-row : goal.returns-clause-row
returns-clause-row c =
    fields_are_row c.args.fields.now
    (all_written (string_bytes c.args.text.now) (string_bytes c.loop-index.text) c.args.fields.now c.loop-index.index
    c.loop-index-test.false c.loop-index.invariant).safe

pub returns-clause-split : goal.returns-clause-split
returns-clause-split c =
    fields_split c.args.fields.now
    (all_written (string_bytes c.args.text.now) (string_bytes c.loop-index.text) c.args.fields.now c.loop-index.index
    c.loop-index-test.false c.loop-index.invariant).safe
