use Rattle.std.proofs.Common.{◌≡◌, ◌++◌, take}
use Rattle.std.specs.Prelude.{flat_map}
use Rattle.casebook_page.specs.Told.{restoration_told}
use Rattle.casebook_page.proofs.restore.push_rows.Given as goal

abbrev pub invariant-loop-path : goal.invariant-loop-path
invariant-loop-path l = l.html ≡ l.fn.html ++ flat_map (restoration_told l.contents.case.now.source) (take l.path-index l.paths)
