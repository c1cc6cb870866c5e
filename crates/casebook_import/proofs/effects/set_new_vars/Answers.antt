use Rattle.casebook_import.proofs.Cells.{vars_set}
use Rattle.casebook_import.proofs.effects.set_new_vars.Goals as goal

pub returns : goal.returns
returns c =
    vars_set c.args.state.now c.args.new.now c.args.effect.now c.set_changed.new.effect
    c.set_unset.new.effect c.in_ok-set_changed.ensures c.in_ok-set_unset.ensures
