use Rattle.std.specs.Prelude.{IfSome}
use Rattle.casebook_folder.specs.Plans.{AreSeenRows}
use Rattle.casebook_folder.specs.Steps.{after_steps}
use Rattle.casebook_folder.proofs.Planned.{Along}
use Rattle.casebook_folder.proofs.planning.plan.Given as goal

abbrev pub invariant-loop-path : goal.invariant-loop-path
invariant-loop-path g l = record {
  plan : Along l.trees.recorded.now l.trees.repaired.now l.trees.given.now l.paths l.path-index l.rows.items;
  seen : IfSome (g.F.Folder.first l.fn.folder) (λ first.
      AreSeenRows (after_steps (g.F.Folder.made l.fn.folder) first) l.rows.items);
}
