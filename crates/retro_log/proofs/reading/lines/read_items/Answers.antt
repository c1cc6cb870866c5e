use Rattle.std.proofs.Common.{◌≡◌, arith}
use Rattle.json.specs.Json.{parse_map}
use Rattle.serde_json.specs.Data.{item}
use Rattle.retro_value.specs.Borrowed.{value_data}
use Rattle.retro_value.specs.Left.{items_left}
use Rattle.retro_json.specs.ReadsAs.{seen}
use Rattle.retro_json.proofs.Rows.{rows_start, rows_go_on, rows_refused, rows_end}
use Rattle.retro_log.proofs.reading.lines.read_items.Goals as goal

pub items-init : goal.items-init
items-init g c = rw c.new.ensures.items (rows_start g.L.Line.line_of c.args.depth c.args.reader.now)

pub returns-in_err-item-clause-not_json : goal.returns-in_err-item-clause-not_json
returns-in_err-item-clause-not_json g c refused =
    rows_refused g.L.Line.line_of c.args.depth c.args.reader.now c.items.reader (seen (λ v. v.items) c.items.lines)
    (c.next_item.ensures.not_json (grind arith)) c.items.invariant

pub items-preserved : goal.items-preserved
items-preserved g c =
    let here : items_left c.args.depth c.items.reader
    ≡ parse_map (item (value_data c.in-Some.item)) (items_left c.args.depth c.next_item.new.reader) = grind arith in
    rows_go_on g.L.Line.line_of c.args.depth c.args.reader.now c.items.reader c.next_item.new.reader
    (seen (λ v. v.items) c.items.lines) (seen (λ v. v.items) c.in_ok-lines.lines) (value_data c.in-Some.item)
    c.in_ok-line.line here c.in_ok-line.ensures c.in_ok-lines.ensures c.items.invariant

pub returns-clause-value : goal.returns-clause-value
returns-clause-value g c =
    rows_end g.L.Line.line_of c.args.depth c.args.reader.now c.items.reader c.next_item.new.reader
    (seen (λ v. v.items) c.items.lines) (grind arith) c.items.invariant
