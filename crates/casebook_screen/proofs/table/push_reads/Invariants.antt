use Rattle.std.proofs.Common.{◌≡◌, ◌++◌, map, take}
use Rattle.casebook_screen.specs.Fields.{read_field}
use Rattle.casebook_screen.proofs.table.push_reads.Given as goal

abbrev pub invariant-loop-path : goal.invariant-loop-path
invariant-loop-path l = l.fields.items ≡ l.fn.fields.items ++ map read_field (take l.path-index l.paths)
