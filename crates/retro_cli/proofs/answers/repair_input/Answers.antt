use Rattle.std.proofs.Common.{ap, sym, ◌∙◌}
use Rattle.retro_cli.specs.RepairReport.{repair_text}
use Rattle.retro_cli.proofs.answers.repair_input.Goals as goal

pub returns-clause-ok : goal.returns-clause-ok
returns-clause-ok g c =
    let repair = c.in_ok-recording.repair in
    let is = c.in_ok-recording.ensures.ok in
    (repair, is.0.is_repair, c.in_ok-repair_report.ensures ∙ ap (λ r. repair_text r repair) (sym is.1))
