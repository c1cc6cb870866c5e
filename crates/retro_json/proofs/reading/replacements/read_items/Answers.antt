use Rattle.std.proofs.lemmas.Result.{err_from_is_err_and}
use Rattle.retro_value.specs.Borrowed.{value_data}
use Rattle.retro_json.specs.Replacements.{replacement_of}
use Rattle.retro_json.proofs.Each.{loop_goes_on, loop_ends, loop_done}
use Rattle.retro_json.proofs.reading.replacements.read_items.Goals as goal

pub returns-in_err-replacement_of : goal.returns-in_err-replacement_of
returns-in_err-replacement_of c =
    let p = err_from_is_err_and c.from_residual.result c.from_residual.ensures.1 in
    rw (p.1, p.2)
    (loop_ends replacement_of value_data (λ edit. edit) c.in_err-replacement_of.field-0.0 c.loop-item.edits.items c.args.items.now
    c.loop-item.item-index _ c.item-item.result
    c.loop-item-test.true c.item-item.is c.in_err-replacement_of.ensures c.loop-item.invariant)

pub loop-item-preserved : goal.loop-item-preserved
loop-item-preserved c =
    loop_goes_on replacement_of value_data (λ edit. edit) c.loop-item.edits.items c.push.new.self.items c.args.items.now
    c.loop-item.item-index _ c.item-item.result c.in_ok-replacement_of.field-0
    c.loop-item-test.true c.item-item.is c.in_ok-push.ensures.items c.in_ok-replacement_of.ensures c.loop-item.invariant

pub returns : goal.returns
returns c =
    loop_done replacement_of value_data (λ edit. edit) c.loop-item.edits.items c.args.items.now c.loop-item.item-index
    c.loop-item-test.false c.loop-item.invariant
