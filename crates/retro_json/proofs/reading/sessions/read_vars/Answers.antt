use Rattle.retro_value.specs.Borrowed.{value_data}
use Rattle.retro_json.specs.ReadsAs.{seen}
use Rattle.retro_json.specs.SessionsPart.{var_of}
use Rattle.retro_json.proofs.Worst.{validating_goes_on, validating_done}
use Rattle.retro_json.proofs.reading.sessions.read_vars.Goals as goal

pub loop-item-preserved : goal.loop-item-preserved
loop-item-preserved c =
    validating_goes_on var_of value_data (seen (λ v. v.items) c.loop-item.vars) (seen (λ v. v.items) c.in_ok-vars.vars)
    c.args.items.now c.loop-item.item-index _ c.item-item.result c.in_ok-var.var c.loop-item-test.true c.item-item.is
    c.in_ok-var.ensures c.in_ok-vars.ensures
    c.loop-item.invariant

pub returns : goal.returns
returns c =
    validating_done var_of value_data (seen (λ v. v.items) c.loop-item.vars) c.args.items.now c.loop-item.item-index
    c.loop-item-test.false c.loop-item.invariant
