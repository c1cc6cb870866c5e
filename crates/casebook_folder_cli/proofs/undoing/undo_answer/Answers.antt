use Rattle.std.proofs.Common.{◌≡◌, ◌∙◌, ap, map, not}
use Rattle.casebook_undo.specs.Reads.{file_view}
use Rattle.casebook_restore.specs.RowPlans.{planned_in}
use Rattle.casebook_folder_cli.specs.Restoring.{said_of}
use Rattle.casebook_folder_cli.proofs.Known.{opened, two}
use Rattle.casebook_folder_cli.proofs.undoing.undo_answer.Goals as goal

pub returns : goal.returns
returns g c =
    let file = c.in_ok-file.file in
    let plan = c.in_ok-plan.plan in
    let root = c.args.request.now.root.now in
    two (g.D.Folders.holds c.args.folders.now) _ _ _ c.in_ok-file.ensures
    (opened (g.D.Folders.holds c.args.folders.now) _ _ (λ at. at.opened root file.at)
    (λ f. plan.rows.items ≡ map (planned_in f) c.in_ok-rows.rows.items.items) c.in_ok-folder.ensures
    c.in_ok-plan.ensures.rows)
    (λ at is rows. (
      is.0,
      (
        is.1.0,
        record {
          file = file_view file;
          is_file = is.1.1;
          plan = plan;
          rows = rows ∙ ap (map (planned_in (at.opened root file.at))) c.in_ok-rows.ensures;
          unkept = c.in_ok-plan.ensures.unkept;
          outside = c.in_ok-plan.ensures.outside;
          left_out = c.in_ok-plan.ensures.left_out;
          lines = c.in_ok-lines.ensures;
          is_no = ap not c.can_be_carried_out.ensures;
          remark = c.in_ok-remark_of.ensures ∙ ap said_of c.in_ok-is_done.ensures.done;
        },
      ),
    ))
