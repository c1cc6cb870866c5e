use Rattle.std.proofs.Common.{sym, ◌∙◌}
use Rattle.retro_tree.proofs.Undoing.{old_undone}
use Rattle.retro_tree.proofs.commit.write_setting.Goals as goal

pub returns-in-Some-clause-undo : goal.returns-in-Some-clause-undo
returns-in-Some-clause-undo c =
    rw c.in_ok-set.ensures.ok
    (old_undone c.args.sid c.args.setting c.args.state.now c.in-Some.previous (sym c.in-Some.is
    ∙ c.in_ok-set.ensures.previous))
