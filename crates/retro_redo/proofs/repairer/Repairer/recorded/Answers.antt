use Rattle.std.proofs.Common.{ap, ◌∙◌}
use Rattle.retro_keep.specs.Recorded.{recorded_before}
use Rattle.retro_redo.specs.Progress.{ProgressValue}
use Rattle.retro_redo.proofs.Before.{before_next}
use Rattle.retro_redo.proofs.repairer.Repairer.recorded.Goals as goal

pub returns : goal.returns
returns c =
    c.at.ensures
    ∙ ap (recorded_before c.args.number) (c.self.invariant.2 ∙ ap (λ (p : ProgressValue). p.recording) c.self.view_is)
    ∙ before_next c.args.self.now c.args.number c.noted_line.ensures.well_formed c.requires
