use Rattle.std.proofs.Common.{◌∙◌, ap, sym}
use Rattle.std.specs.Option.{option_copied}
use Rattle.retro_redo.specs.Progress.{ProgressValue, edit_in}
use Rattle.retro_redo.proofs.Finishing.{none_is}
use Rattle.retro_redo.proofs.StepUses.{next_met}
use Rattle.retro_redo.proofs.Unmet.{met_now, unmet_holds}
use Rattle.retro_redo.proofs.repairer.Repairer.next_line.Goals as goal

pub returns-in_default : goal.returns-in_default
returns-in_default c =
    sym c.noted_line.ensures.line ∙ ap option_copied (none_is c.noted_line.result c.in_default.not-Some)

pub returns : goal.returns
returns c =
    let k = c.in-Some.line.now in
    let next = sym c.noted_line.ensures.line ∙ ap option_copied c.in-Some.is in
    let edit = c.get-edit.ensures ∙ ap (λ (p : ProgressValue). edit_in p k.0) c.self.view_is in
    let used =
    next_met c.args.self.now _ c.self.inside.difference.overlay c.self.inside.difference.uses k c.self.view_is c.self.invariant.1
    c.noted_line.ensures.well_formed next c.is_used_at.result c.is_used_at.ensures in
    record {
      next = next;
      edit = edit;
      met =
          met_now c.args.self.now _ c.self.inside.difference.overlay c.self.inside.lines.items c.is_used_at.result k
          c.self.view_is c.self.invariant.0 next used (option_copied c.get-edit.result) c.is_met_by-is_met.result edit
          c.is_met_by-is_met.ensures k next;
      holds = λ own none not_met.
          unmet_holds c.args.self.now _ c.self.inside.difference.overlay c.self.inside.lines.items c.is_used_at.result k
          c.self.view_is c.self.invariant.0 next used (option_copied c.get-edit.result) c.is_met_by-is_met.result edit
          c.is_met_by-is_met.ensures own k next none not_met;
    }
