use Rattle.std.proofs.Common.{◌∙◌, ◌≤◌, ap, arith, subst, sym}
use Rattle.serde_json.specs.Data.{depth}
use Rattle.serde_json.specs.Read.{max_depth}
use Rattle.serde_json.specs.Written.{has_float}
use Rattle.retro_log.proofs.LogShape.{line_float, line_low}
use Rattle.retro_log.proofs.writing.line.push_line.Goals as goal

pub push_value-requires-clause-float : goal.push_value-requires-clause-float
push_value-requires-clause-float c =
    ap has_float c.in_ok-line.ensures.value ∙ line_float (c.args.number, c.args.noted.now)

pub push_value-requires-clause-low : goal.push_value-requires-clause-low
push_value-requires-clause-low c =
    let low = line_low (c.args.number, c.args.noted.now) in
    subst (λ d. depth d ≤ max_depth) (sym c.in_ok-line.ensures.value) (omega (arith, low))
