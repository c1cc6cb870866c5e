use Rattle.std.proofs.Common.{ap, drop, length, subst, sym, ◌∙◌}
use Rattle.retro_difference.specs.Difference.{IsAmong}
use Rattle.retro_redo.specs.Progress.{ProgressValue}
use Rattle.retro_redo.proofs.KeptLines.{keeps_skipped, skips}
use Rattle.retro_redo.proofs.StepUses.{skipped_uses}
use Rattle.retro_redo.proofs.repairer.Repairer.keep_unmet.Goals as goal

pub unmet_lines-unmet-requires : goal.unmet_lines-unmet-requires
unmet_lines-unmet-requires c = c.self.invariant.0.known

pub invariant_of-self-2 : goal.invariant_of-self-2
invariant_of-self-2 c =
    let at = c.len-settled.ensures ∙ c.self.inside.choices.ok.0 in
    let lines = c.self.inside.recording.now.lines in
    let found =
    c.unmet_lines-unmet.ensures.unmet (subst (λ k. IsAmong (drop k lines) c.self.inside.difference) (sym at) c.self.invariant.1) in (
      keeps_skipped c.args.self.now _ c.self.inside.difference.overlay c.self.inside.lines.items c.self.inside.recording.now
          c.len-settled.result (length c.unmet_lines-unmet.result.now) c.push_kept.new.choices.items c.self.view_is
          c.self.invariant.0 c.noted_line.ensures.well_formed (ap (λ (p : ProgressValue). p.recording) c.self.view_is) at
          found.0 c.in_ok-push_kept.ensures.choices c.unmet_lines-unmet.result.now c.push_kept.new.lines.items
          c.unmet_lines-unmet.ensures.lines c.in_ok-push_kept.ensures.lines,
      skipped_uses c.self.inside.choices.items lines c.self.inside.difference.overlay c.self.inside.difference.uses
          c.len-settled.result (length c.unmet_lines-unmet.result.now) c.push_kept.new.choices.items at found.1
          c.in_ok-push_kept.ensures.choices,
      c.self.invariant.2,
    )

pub returns-clause-ok : goal.returns-clause-ok
returns-clause-ok c =
    let at = c.len-settled.ensures ∙ c.self.inside.choices.ok.0 in
    let lines = c.self.inside.recording.now.lines in
    let found =
    c.unmet_lines-unmet.ensures.unmet (subst (λ k. IsAmong (drop k lines) c.self.inside.difference) (sym at) c.self.invariant.1) in
    skips c.args.self.now _ c.self.inside.difference.overlay c.self.inside.lines.items c.self.inside.recording.now
    c.len-settled.result (length c.unmet_lines-unmet.result.now) c.push_kept.new.choices.items c.self.view_is
    c.self.invariant.0 c.noted_line.ensures.well_formed (ap (λ (p : ProgressValue). p.recording) c.self.view_is) at found.0
    c.in_ok-push_kept.ensures.choices
