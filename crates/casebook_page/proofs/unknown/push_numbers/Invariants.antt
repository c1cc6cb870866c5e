use Rattle.std.proofs.Common.{◌≡◌, ◌++◌, map, take}
use Rattle.casebook_page.specs.Told.{number_told}
use Rattle.casebook_page.specs.Views.{contents_view}
use Rattle.casebook_page.proofs.unknown.push_numbers.Given as goal

abbrev pub invariant-loop-number : goal.invariant-loop-number
invariant-loop-number l =
    l.html ≡ l.fn.html ++ map (number_told (contents_view l.contents)) (take l.number-index l.numbers)
