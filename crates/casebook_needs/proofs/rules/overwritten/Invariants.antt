-- The paths so far, and those of the effects that are left.
use Rattle.std.proofs.Common.{◌≡◌, ◌++◌, drop}
use Rattle.std.specs.List.{filter_map}
use Rattle.casebook_needs.specs.Line.{line_value}
use Rattle.casebook_needs.specs.Needs.{overwritten, overwritten_path}
use Rattle.casebook_needs.proofs.rules.overwritten.Given as goal

abbrev pub invariant-loop-effect : goal.invariant-loop-effect
invariant-loop-effect g l =
    l.paths.items
    ++ filter_map (overwritten_path (g.V.View.state l.view)) (drop l.effect-index l.effect-items)
    ≡ overwritten (g.V.View.state l.view) (line_value l.line)
