use Rattle.std.proofs.Common.{◌≡◌, ◌++◌, map, take}
use Rattle.casebook_html.specs.declared.piece.Piece.TheVariants.{Number}
use Rattle.casebook_page.proofs.head.push_numbers.Given as goal

abbrev pub invariant-loop-number : goal.invariant-loop-number
invariant-loop-number l = l.html ≡ l.fn.html ++ map Number (take l.number-index l.numbers)
