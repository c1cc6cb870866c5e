use Rattle.std.proofs.Common.{◌≡◌, ◌∙◌, ◌++◌, false, ap, codes}
use Rattle.serde_json.specs.View.{view}
use Rattle.serde_json.specs.Written.{has_float, compact_text}
use Rattle.retro_cli.specs.RepairReport.{repair_data, repair_text}
use Rattle.retro_cli.proofs.Floats.{repair_float}
use Rattle.retro_cli.proofs.repair_report.repair_report.Goals as goal

pub returns : goal.returns
unfolding repair_text
returns c =
    let written : view c.in_ok-value.value ≡ repair_data c.args.recorded c.args.repair.now = c.in_ok-value.ensures in
    let none : has_float (view c.in_ok-value.value) ≡ false = ap has_float written ∙ repair_float c.args.recorded c.args.repair.now in
    c.in_ok-push.ensures.items
    ∙ ap (λ text. text ++ codes "\n") (c.in_ok-text.ensures.text none ∙ ap compact_text written)
