-- The steps of the observations so far.
use Rattle.std.proofs.Common.{◌≡◌, map, take}
use Rattle.casebook_typed.specs.Seeing.{said}
use Rattle.casebook_typed.specs.Sessions.{step_in}
use Rattle.casebook_typed.specs.inner.Places.{names_in}
use Rattle.casebook_typed.proofs.names.Names.steps.Given as goal

abbrev pub invariant-loop-observation : goal.invariant-loop-observation
invariant-loop-observation l =
    l.steps.items ≡ map (step_in (names_in l.self)) (map said (take l.observation-index l.observations))
