-- The sessions so far.
use Rattle.std.proofs.Common.{◌≡◌, map, take}
use Rattle.casebook_typed.specs.Seeing.{said}
use Rattle.casebook_typed.specs.Sessions.{session_in}
use Rattle.casebook_typed.specs.Values.{session_value}
use Rattle.casebook_typed.specs.inner.Places.{names_in}
use Rattle.casebook_typed.proofs.typed.sessions.Given as goal

abbrev pub invariant-loop-name : goal.invariant-loop-name
invariant-loop-name l =
    map session_value l.sessions.items
    ≡ map (session_in (names_in l.names) (map said l.observations)) (map (λ name. name.now) (take l.name-index l.names.all.items))
