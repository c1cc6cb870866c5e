use Rattle.std.proofs.Common.{ap, map, string_bytes, ◌++◌, ◌∙◌}
use Rattle.std.specs.Char.{encode_utf8}
use Rattle.casebook_text.specs.SafeLine.{row_of_fields}
use Rattle.casebook_text.proofs.ShownLines.{text_bytes, text_characters, text_lines}
use Rattle.casebook_text.proofs.ShownRows.{all_rows, next_fields, no_rows, text_value}
use Rattle.casebook_text.proofs.shown_rows.text_of_rows.Goals as goal

pub loop-fields-init : goal.loop-fields-init
loop-fields-init c = no_rows (λ row. row.items) (string_bytes c.new-text.result) c.new-text.ensures.bytes

pub loop-fields-preserved : goal.loop-fields-preserved
unfolding encode_utf8
loop-fields-preserved c =
    next_fields (λ row. row.items) (string_bytes c.loop-fields.text) (string_bytes c.push_fields.new.text)
    (string_bytes c.push.new.self) c.args.rows.now c.loop-fields.fields-index c.fields-item.result c.loop-fields-test.true
    c.fields-item.is c.loop-fields.invariant (rw (← c.as_slice.ensures.value) c.in_ok-push_fields.ensures.row)
    (rw (← c.as_slice.ensures.value) c.in_ok-push_fields.ensures.split)
    (rw (← c.as_slice.ensures.value) c.in_ok-push_fields.ensures.value) c.in_ok-push.ensures.bytes

pub returns-clause-value : goal.returns-clause-value
returns-clause-value c =
    text_value (λ row. row.items) (string_bytes c.loop-fields.text) c.args.rows.now
    (all_rows (λ row. row.items) _ c.args.rows.now c.loop-fields.fields-index c.loop-fields-test.false c.loop-fields.invariant)

pub returns-clause-characters : goal.returns-clause-characters
returns-clause-characters c =
    text_characters (string_bytes c.loop-fields.text) (map (λ row. row_of_fields row.items) c.args.rows.now)
    (all_rows (λ row. row.items) _ c.args.rows.now c.loop-fields.fields-index c.loop-fields-test.false c.loop-fields.invariant).text_is

pub returns-clause-bytes : goal.returns-clause-bytes
returns-clause-bytes c =
    text_bytes (string_bytes c.loop-fields.text) (map (λ row. row_of_fields row.items) c.args.rows.now)
    (all_rows (λ row. row.items) _ c.args.rows.now c.loop-fields.fields-index c.loop-fields-test.false c.loop-fields.invariant).text_is

pub returns-clause-rows : goal.returns-clause-rows
returns-clause-rows c =
    text_lines (string_bytes c.loop-fields.text) (map (λ row. row_of_fields row.items) c.args.rows.now)
    (all_rows (λ row. row.items) _ c.args.rows.now c.loop-fields.fields-index c.loop-fields-test.false c.loop-fields.invariant).text_is

pub returns-clause-fields : goal.returns-clause-fields
returns-clause-fields c =
    (all_rows (λ row. row.items) _ c.args.rows.now c.loop-fields.fields-index c.loop-fields-test.false c.loop-fields.invariant).split
