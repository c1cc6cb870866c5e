-- The numbers so far, and those that are left.
use Rattle.std.proofs.Common.{◌≡◌, ◌++◌, length, map}
use Rattle.casebook_screen.specs.declared.piece.Piece.TheVariants.{Number}
use Rattle.casebook_screen.proofs.unknown.push_rows.Given as goal

abbrev pub invariant-loop-rest : goal.invariant-loop-rest
invariant-loop-rest l = l.screen ++ map Number l.rest ≡ l.fn.screen ++ map Number l.numbers

abbrev pub decreases-loop-rest : goal.decreases-loop-rest
decreases-loop-rest l = length l.rest
