use Rattle.std.proofs.Common.{◌≡◌, ◌++◌, take}
use Rattle.std.specs.Prelude.{flat_map}
use Rattle.casebook_page.specs.Told.{write_told}
use Rattle.casebook_page.proofs.row.push_writes.Given as goal

abbrev pub invariant-loop-write : goal.invariant-loop-write
invariant-loop-write l = l.html ≡ l.fn.html ++ flat_map write_told (take l.write-index l.writes)
