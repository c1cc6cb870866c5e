use Rattle.std.proofs.Common.{sym, ◌∙◌}
use Rattle.json.specs.Json.{value}
use Rattle.json.specs.Value.{value_view}
use Rattle.retro_value.proofs.Left.{was_in_range, was_out_of_range}
use Rattle.retro_value.proofs.value.read_value.Goals as goal

pub returns-then-is_in_range-clause-value : goal.returns-then-is_in_range-clause-value
returns-then-is_in_range-clause-value c =
    was_in_range (value c.args.depth c.args.reader.now) (value_view c.in-Ok.value) c.read.new.reader c.in-Ok.ensures.ok
    (sym c.is_in_range.ensures ∙ c.if-is_in_range.true)

pub returns-in-Ok-clause-not_json : goal.returns-in-Ok-clause-not_json
returns-in-Ok-clause-not_json c never =
    was_out_of_range (value c.args.depth c.args.reader.now) (value_view c.in-Ok.value) c.read.new.reader
    c.in-Ok.ensures.ok (sym c.is_in_range.ensures ∙ c.if-is_in_range.false)
