use Rattle.std.proofs.Common.{◌≡◌, Some, None, arith}
use Rattle.json.specs.Json.{after_end_array}
use Rattle.retro_value.specs.Borrowed.{value_data}
use Rattle.retro_value.proofs.Left.{item_read, item_refused, items_over}
use Rattle.retro_value.proofs.list.next_item.Goals as goal

pub returns-then-take_end_array-clause-value : goal.returns-then-take_end_array-clause-value
returns-then-take_end_array-clause-value c =
    let over : after_end_array c.args.reader.now ≡ Some c.take_end_array.new.self = grind arith in
    items_over c.args.depth c.args.reader.now c.take_end_array.new.self over

pub returns-in_err-read_value-clause-not_json : goal.returns-in_err-read_value-clause-not_json
returns-in_err-read_value-clause-not_json c refused =
    let going : (after_end_array c.args.reader.now ≡ None) × (c.take_end_array.new.self ≡ c.args.reader.now) =
    grind arith in
    item_refused c.args.depth c.args.reader.now going.0 (rw (← going.1) (c.read_value.ensures.not_json (grind arith)))

pub returns-clause-value : goal.returns-clause-value
returns-clause-value c =
    let going : (after_end_array c.args.reader.now ≡ None) × (c.take_end_array.new.self ≡ c.args.reader.now) =
    grind arith in
    item_read c.args.depth c.args.reader.now c.read_value.new.reader (value_data c.in_ok-read_value.field-0) going.0
    (rw (← going.1) c.in_ok-read_value.ensures.value)
