use Rattle.std.proofs.Common.{◌∙◌, ap, count_by, map}
use Rattle.std.specs.List.{filter}
use Rattle.casebook_folder.specs.Changes.{differs}
use Rattle.casebook_restore.specs.Choices.{is_left_out, is_missed, is_outside, is_wanted, unkept_at}
use Rattle.casebook_restore.proofs.Changes.{all_are_planned}
use Rattle.casebook_restore.proofs.planning.plan_restore.Goals as goal

pub returns-clause-plan : goal.returns-clause-plan
returns-clause-plan g c =
    let task = c.args.task.now in
    let a = task.trees.recorded.now in
    let b = task.trees.repaired.now in
    let changed = c.in_ok-changed.changed.items in
    let wanted = is_wanted b task.at.now task.only.now in
    record {
      changed = changed;
      are_changed = c.in_ok-changed.ensures;
      paths = c.in_ok-rows.ensures.plan.exact
          ∙ ap (filter (differs a b)) (c.as_slice-4.ensures.value ∙ c.in_ok-paths.ensures)
          ∙ all_are_planned a b wanted changed c.in_ok-changed.ensures;
      planned = c.in_ok-rows.ensures.plan.planned;
      unkept = c.in_ok-unkept.ensures
          ∙ ap (λ cs. map (unkept_at b) (filter (is_missed b task.at.now task.only.now) cs))
          c.as_slice-3.ensures.value;
      outside = c.count_outside-outside.ensures ∙ ap (count_by (is_outside task.at.now)) c.as_slice.ensures.value;
      left_out = c.count_left_out-left_out.ensures
          ∙ ap (count_by (is_left_out b task.at.now task.only.now)) c.as_slice-2.ensures.value;
    }
