-- What is missing so far, and of the sessions that are left.
use Rattle.std.proofs.Common.{◌≡◌, ◌++◌, ◌+◌, drop, map}
use Rattle.casebook_typed.specs.Values.{session_value}
use Rattle.casebook_status.specs.Rows.{missing_pieces}
use Rattle.casebook_status.proofs.pieces.missing_pieces.Given as goal

abbrev pub invariant-loop-index : goal.invariant-loop-index
invariant-loop-index l =
    l.pieces.items ++ missing_pieces (l.index + 1) (map session_value (drop l.index l.sessions))
    ≡ missing_pieces 1 (map session_value l.sessions)
