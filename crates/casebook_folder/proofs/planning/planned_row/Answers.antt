use Rattle.casebook_folder.proofs.Leftover.{both_some}
use Rattle.casebook_folder.proofs.planning.planned_row.Goals as goal

pub returns-clause-seen : goal.returns-clause-seen
returns-clause-seen g c =
    both_some (g.F.Folder.first c.args.folder.now) c.in_ok-before.ensures.ok c.in_ok-has_other_child.ensures
    (λ first e k. record {
      before = e;
      has_other_child = c.in_ok-has_other_child.has_other_child;
      child = k;
      state = c.state-state.ensures;
    })
