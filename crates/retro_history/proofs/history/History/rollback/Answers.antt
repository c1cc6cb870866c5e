use Rattle.std.proofs.Common.{ap, sym, ◌∙◌}
use Rattle.retro_history.proofs.RecordedVersions.{recorded_value, recorded_rolled, recorded_checkpoint}
use Rattle.retro_history.proofs.history.History.rollback.Goals as goal

pub returns-clause-rule : goal.returns-clause-rule
returns-clause-rule c =
    ap (λ v. record { from = c.version_before-version.result.checkpoint; value = v }) c.in_ok-to_value.ensures
    ∙ ap (λ p. record { from = p.0; value = p.1 }) c.version_before-version.ensures.value
    ∙ sym (recorded_rolled c.args.cell.now c.args.number c.args.self.now
    c.version_before-version.ensures.well_formed.rising)

pub returns-clause-from : goal.returns-clause-from
returns-clause-from c =
    ap (λ p. p.0) c.version_before-version.ensures.value
    ∙ sym (recorded_checkpoint c.args.cell.now c.args.number c.args.self.now
    c.version_before-version.ensures.well_formed.rising)

pub returns-clause-value : goal.returns-clause-value
returns-clause-value c =
    c.in_ok-to_value.ensures ∙ ap (λ p. p.1) c.version_before-version.ensures.value
    ∙ recorded_value c.args.cell.now c.args.number c.args.self.now
