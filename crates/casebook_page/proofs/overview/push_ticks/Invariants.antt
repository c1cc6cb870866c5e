use Rattle.std.proofs.Common.{◌≡◌, ◌++◌, map, take}
use Rattle.std.specs.Prelude.{flat_map}
use Rattle.casebook_page.specs.Told.{tick_told}
use Rattle.casebook_page.proofs.overview.push_ticks.Given as goal

abbrev pub invariant-loop-line : goal.invariant-loop-line
invariant-loop-line l = l.html ≡ l.fn.html ++ flat_map tick_told (map (λ line. line.line) (take l.line-index l.lines))
