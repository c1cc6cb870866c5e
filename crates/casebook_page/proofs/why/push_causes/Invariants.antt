use Rattle.std.proofs.Common.{◌≡◌, ◌++◌, map, take}
use Rattle.casebook_page.specs.Told.{link_told}
use Rattle.casebook_page.proofs.why.push_causes.Given as goal

abbrev pub invariant-loop-cause : goal.invariant-loop-cause
invariant-loop-cause l = l.html ≡ l.fn.html ++ map link_told (take l.cause-index l.causes)
