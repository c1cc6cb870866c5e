use Rattle.std.proofs.Common.{◌≡◌, ◌∙◌, ◌++◌, false, ap, codes}
use Rattle.serde_json.specs.View.{view}
use Rattle.serde_json.specs.Written.{has_float, compact_text}
use Rattle.retro_cli.specs.Report.{replay_data, replay_text}
use Rattle.retro_cli.proofs.Floats.{replay_float}
use Rattle.retro_cli.proofs.report.replay_report.Goals as goal

pub returns : goal.returns
unfolding replay_text
returns c =
    let written : view c.in_ok-value.value ≡ replay_data c.args.outputs.now c.args.state.now = c.in_ok-value.ensures in
    let none : has_float (view c.in_ok-value.value) ≡ false = ap has_float written
    ∙ replay_float c.args.outputs.now c.args.state.now in
    c.in_ok-push.ensures.items
    ∙ ap (λ text. text ++ codes "\n") (c.in_ok-text.ensures.text none ∙ ap compact_text written)
