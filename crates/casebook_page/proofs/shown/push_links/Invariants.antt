use Rattle.std.proofs.Common.{◌≡◌, ◌++◌, map, take}
use Rattle.casebook_page.specs.Told.{link_told}
use Rattle.casebook_page.proofs.shown.push_links.Given as goal

abbrev pub invariant-loop-number : goal.invariant-loop-number
invariant-loop-number l = l.html ≡ l.fn.html ++ map link_told (take l.number-index l.numbers)
