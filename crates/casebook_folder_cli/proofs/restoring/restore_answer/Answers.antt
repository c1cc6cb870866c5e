use Rattle.std.proofs.Common.{◌∙◌, ◌&&◌, ap, not, subst, sym}
use Rattle.casebook_folder.specs.Plans.{AreSeenRows}
use Rattle.casebook_restore.specs.Plans.{can_be_carried_out}
use Rattle.casebook_restore.specs.Restores.{IsRestorePlan}
use Rattle.casebook_folder_cli.specs.Restoring.{said_of}
use Rattle.casebook_folder_cli.proofs.Known.{one, opened, some_mapped}
use Rattle.casebook_folder_cli.proofs.restoring.restore_answer.Goals as goal

pub returns : goal.returns
returns g c =
    let request = c.args.request.now in
    let plan = c.in_ok-plan.plan in
    one (g.D.Folders.holds c.args.folders.now) _ _
    (opened (g.D.Folders.holds c.args.folders.now) _ _ (λ at. at.opened request.root.now request.at)
    (λ f. AreSeenRows f plan.rows.items) c.in_ok-folder.ensures c.in_ok-plan.ensures.seen)
    (λ at seen. record {
      owner = c.in_ok-owner.field-0;
      given = c.given_by-given.result;
      is_given = c.given_by-given.ensures;
      plan = plan;
      is_plan = subst (λ only. IsRestorePlan (record {
        recorded = c.args.tree.recorded.now;
        repaired = c.args.tree.repaired.now;
        given = c.given_by-given.result;
        at = request.at;
        only = only;
      }) plan) c.as_slice.ensures.value c.in_ok-plan.ensures.plan;
      seen = seen;
      lines = c.in_ok-lines.ensures;
      is_no = ap not c.can_be_carried_out.ensures;
      remark = c.in_ok-remark_of.ensures
          ∙ ap said_of (c.in_ok-is_done.ensures
          ∙ ap (λ b. can_be_carried_out plan && b) (sym (some_mapped (λ s. s.now) request.undo)));
    })
