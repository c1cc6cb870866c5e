use Rattle.std.proofs.Common.{◌∙◌, sym}
use Rattle.casebook_view.specs.Unknown.{is_replaced}
use Rattle.casebook_view.proofs.Replacing.{neither, not_replaced}
use Rattle.casebook_view.proofs.unknown.replaced_obstacles.Goals as goal

pub returns-else-is_any_replaced : goal.returns-else-is_any_replaced
returns-else-is_any_replaced c n =
    let r = c.args.case.now.recording in
    let repaired = c.args.case.now.repair.recording in
    neither (is_replaced r repaired n) _ _
    (not_replaced r repaired (sym c.is_any_replaced.ensures ∙ c.if-is_any_replaced.false) n)
