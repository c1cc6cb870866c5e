-- The users so far, and those that are left.
use Rattle.std.proofs.Common.{◌≡◌, ◌++◌, drop, map}
use Rattle.casebook_typed.specs.Values.{session_value}
use Rattle.casebook_status.specs.Rows.{people_pieces, person_words}
use Rattle.casebook_status.proofs.pieces.people_pieces.Given as goal

abbrev pub invariant-loop-name : goal.invariant-loop-name
invariant-loop-name l =
    l.pieces.items
    ++ map (person_words (map session_value l.sessions))
    (map (λ n. n.now) (drop l.name-index l.name-items))
    ≡ people_pieces (map session_value l.sessions)
