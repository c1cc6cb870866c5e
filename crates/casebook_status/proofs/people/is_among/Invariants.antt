-- Whether the name is one of those that are left, as it is one of all.
use Rattle.std.proofs.Common.{◌≡◌, drop, map}
use Rattle.casebook_status.specs.People.{is_among}
use Rattle.casebook_status.proofs.people.is_among.Given as goal

abbrev pub invariant-loop-other : goal.invariant-loop-other
invariant-loop-other l =
    is_among (map (λ n. n.now) (drop l.other-index l.names)) l.name
    ≡ is_among (map (λ n. n.now) l.names) l.name
