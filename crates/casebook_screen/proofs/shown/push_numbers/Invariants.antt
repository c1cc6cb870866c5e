use Rattle.std.proofs.Common.{◌≡◌, ◌++◌, map, take}
use Rattle.casebook_screen.specs.declared.piece.Piece.TheVariants.{Number}
use Rattle.casebook_screen.proofs.shown.push_numbers.Given as goal

abbrev pub invariant-loop-number : goal.invariant-loop-number
invariant-loop-number l = l.screen ≡ l.fn.screen ++ map Number (take l.number-index l.numbers)
