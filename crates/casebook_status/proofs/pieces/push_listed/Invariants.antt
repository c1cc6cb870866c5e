-- The line so far, with the pieces that are left.
use Rattle.std.proofs.Common.{◌≡◌, ◌++◌, drop}
use Rattle.casebook_status.specs.Rows.{listed, more_listed}
use Rattle.casebook_status.proofs.pieces.push_listed.Given as goal

abbrev pub invariant-loop-piece : goal.invariant-loop-piece
invariant-loop-piece l =
    l.line ++ more_listed (drop l.piece-index l.rest) ≡ l.fn.line ++ listed l.pieces
