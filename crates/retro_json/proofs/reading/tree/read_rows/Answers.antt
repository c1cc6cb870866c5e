use Rattle.std.proofs.Common.{◌≡◌, arith}
use Rattle.json.specs.Json.{parse_map}
use Rattle.serde_json.specs.Data.{item, no_items}
use Rattle.retro_value.specs.Borrowed.{value_data}
use Rattle.retro_value.specs.Left.{items_left}
use Rattle.retro_json.specs.ReadsAs.{seen}
use Rattle.retro_json.specs.TreePart.{row_of}
use Rattle.retro_json.proofs.Rows.{rows_start, rows_go_on, rows_refused, rows_end}
use Rattle.retro_json.proofs.reading.tree.read_rows.Goals as goal

pub items-init : goal.items-init
items-init c = rw c.new.ensures.items (rows_start row_of c.args.depth c.args.reader.now)

pub returns-in_err-item-clause-not_json : goal.returns-in_err-item-clause-not_json
returns-in_err-item-clause-not_json c refused =
    rows_refused row_of c.args.depth c.args.reader.now c.items.reader (seen (λ v. v.items) c.items.rows)
    (c.next_item.ensures.not_json (grind arith)) c.items.invariant

pub items-preserved : goal.items-preserved
items-preserved c =
    let here : items_left c.args.depth c.items.reader
    ≡ parse_map (item (value_data c.in-Some.item)) (items_left c.args.depth c.next_item.new.reader) = grind arith in
    rows_go_on row_of c.args.depth c.args.reader.now c.items.reader c.next_item.new.reader
    (seen (λ v. v.items) c.items.rows) (seen (λ v. v.items) c.in_ok-rows.rows) (value_data c.in-Some.item)
    c.in_ok-row.row here c.in_ok-row.ensures c.in_ok-rows.ensures c.items.invariant

pub returns-clause-value : goal.returns-clause-value
returns-clause-value c =
    rows_end row_of c.args.depth c.args.reader.now c.items.reader c.next_item.new.reader
    (seen (λ v. v.items) c.items.rows) (grind arith) c.items.invariant
