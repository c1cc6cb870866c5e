-- The effects of the lines so far.
use Rattle.std.proofs.Common.{◌≡◌, map, take}
use Rattle.std.specs.List.{filter}
use Rattle.casebook_summary.specs.Effects.{effect_of, effect_value, is_origin}
use Rattle.casebook_summary.proofs.effect.effects.Given as goal

abbrev pub invariant-loop-line : goal.invariant-loop-line
invariant-loop-line l =
    map effect_value l.found.items
    ≡ map (λ line. effect_of l.case.recording l.lines line.number) (filter is_origin (take l.line-index l.lines))
