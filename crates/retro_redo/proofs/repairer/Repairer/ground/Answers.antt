use Rattle.std.proofs.Common.{ap, subst, sym, ◌∙◌}
use Rattle.retro_tree.specs.Commit.{committed}
use Rattle.retro_tree.specs.Exact.{IsExact}
use Rattle.retro_tree.specs.Overlay.{Fits, OverlayMap}
use Rattle.retro_tree.proofs.ExactOverlays.{exact_fits}
use Rattle.retro_keep.specs.Recorded.{recorded_before}
use Rattle.retro_redo.specs.Progress.{ProgressValue, recorded_now, repaired_now}
use Rattle.retro_redo.proofs.Before.{before_next}
use Rattle.retro_redo.proofs.Keeping.{repaired_is}
use Rattle.retro_redo.proofs.repairer.Repairer.ground.Goals as goal

pub new-requires-clause-fits : goal.new-requires-clause-fits
new-requires-clause-fits c =
    subst Fits (sym c.overlay.ensures) (exact_fits c.self.inside.difference.overlay _ _ c.self.invariant.0.exact)

pub new-requires-clause-history : goal.new-requires-clause-history
new-requires-clause-history c = c.self.invariant.2

pub returns-clause-exact : goal.returns-clause-exact
returns-clause-exact c =
    subst (λ (o : OverlayMap). IsExact o (recorded_now c.args.self.now) (repaired_now c.args.self.now))
    (sym (c.new.ensures.overlay ∙ c.overlay.ensures))
    (subst (λ (p : ProgressValue). IsExact c.self.inside.difference.overlay (recorded_now p) (repaired_now p)) c.self.view_is
    c.self.invariant.0.exact)

pub returns-clause-shows : goal.returns-clause-shows
returns-clause-shows c =
    λ number next.
    ap (λ r. committed c.new.result.overlay (recorded_before number r))
    (c.new.ensures.recording ∙ ap (λ (p : ProgressValue). p.recording) c.self.view_is)
    ∙ ap (committed c.new.result.overlay) (before_next c.args.self.now number c.noted_line.ensures.well_formed next)
    ∙ ap (λ (o : OverlayMap). committed o (recorded_now c.args.self.now)) (c.new.ensures.overlay ∙ c.overlay.ensures)
    ∙ repaired_is c.args.self.now _ c.self.inside.difference.overlay c.self.inside.lines.items c.self.view_is c.self.invariant.0
