use Rattle.std.proofs.Common.{ap, ◌∙◌}
use Rattle.retro_history.proofs.RecordedVersions.{recorded_value}
use Rattle.retro_history.proofs.history.History.get.Goals as goal

pub returns : goal.returns
returns c = ap (λ p. p.1) c.version_before.ensures.value ∙ recorded_value c.args.cell.now c.args.number c.args.self.now
