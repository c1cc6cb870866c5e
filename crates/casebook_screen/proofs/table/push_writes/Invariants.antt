use Rattle.std.proofs.Common.{◌≡◌, ◌++◌, map, take}
use Rattle.casebook_screen.specs.Fields.{write_field}
use Rattle.casebook_screen.proofs.table.push_writes.Given as goal

abbrev pub invariant-loop-write : goal.invariant-loop-write
invariant-loop-write l = l.fields.items ≡ l.fn.fields.items ++ map write_field (take l.write-index l.writes)
