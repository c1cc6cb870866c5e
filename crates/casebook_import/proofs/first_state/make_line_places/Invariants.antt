-- The lines that are left lead to what all lead to.
use Rattle.std.proofs.Common.{◌≡◌, drop, map}
use Rattle.casebook_typed.specs.Values.{line_value}
use Rattle.casebook_import.specs.First.{with_places}
use Rattle.casebook_import.proofs.first_state.make_line_places.Given as goal

abbrev pub invariant-loop-line : goal.invariant-loop-line
invariant-loop-line l =
    with_places l.sights (map (λ line. line.shown.directory)
    (map line_value (drop l.line-index l.lines))) l.state
    ≡ with_places l.sights (map (λ line. line.shown.directory) (map line_value l.lines))
    l.fn.state
