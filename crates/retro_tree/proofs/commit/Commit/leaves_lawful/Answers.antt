use Rattle.retro_tree.proofs.CommittedLaw.{writes_decide, removals_decide}
use Rattle.retro_tree.proofs.commit.Commit.leaves_lawful.Goals as goal

pub returns-then-removals_keep_law : goal.returns-then-removals_keep_law
returns-then-removals_keep_law c =
    writes_decide c.removals_keep_law.result c.undos_keep_law.result c.args.self.undos.items
    c.args.self.removals.items c.args.tree.now c.requires c.removals_keep_law.ensures c.if-removals_keep_law.true
    c.undos_keep_law.ensures

pub returns-else-removals_keep_law : goal.returns-else-removals_keep_law
returns-else-removals_keep_law c =
    removals_decide c.removals_keep_law.result c.args.self.undos.items c.args.self.removals.items c.args.tree.now
    c.requires c.removals_keep_law.ensures c.if-removals_keep_law.false
