use Rattle.std.proofs.Common.{IfOk, ap, subst, sym, ◌∙◌}
use Rattle.retro_tree.specs.Notes.{Holds}
use Rattle.retro_tree.specs.Commit.{committed}
use Rattle.retro_tree.specs.Overlay.{Fits, OverlayMap}
use Rattle.retro_tree.proofs.ExactOverlays.{exact_fits}
use Rattle.retro_redo.proofs.Keeping.{new_run_of, repaired_is}
use Rattle.retro_redo.proofs.NextLines.{new_text_next, pair_of}
use Rattle.retro_redo.proofs.repairer.Repairer.run_again.Goals as goal

pub new-repaired-requires : goal.new-repaired-requires
new-repaired-requires g c =
    subst Fits (sym c.overlay.ensures) (exact_fits c.self.inside.difference.overlay _ _ c.self.invariant.0.exact)

pub returns-clause-new_run : goal.returns-clause-new_run
returns-clause-new_run g c =
    new_run_of c.args.self.now (pair_of c.args.line) c.run_line-run.result c.as_str.result.now
    c.requires.next c.run_line-run.ensures.sid c.run_line-run.ensures.text
    (c.as_str.ensures ∙ new_text_next c.args.self.now c.args.line c.requires c.text-text.result.now c.text-text.ensures)

pub returns-clause-holds : goal.returns-clause-holds
returns-clause-holds g c =
    subst (λ s. IfOk c.run_line-run.result (λ run. Holds run.notes s))
    (c.new-repaired.ensures ∙ ap (λ (o : OverlayMap). committed o c.recorded.result) c.overlay.ensures
    ∙ ap (committed c.self.inside.difference.overlay) c.recorded.ensures
    ∙ repaired_is c.args.self.now _ c.self.inside.difference.overlay c.self.inside.lines.items c.self.view_is c.self.invariant.0)
    c.run_line-run.ensures.holds
