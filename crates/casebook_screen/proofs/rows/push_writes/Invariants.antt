use Rattle.std.proofs.Common.{◌≡◌, ◌++◌, map, take}
use Rattle.casebook_screen.specs.Fields.{write_field}
use Rattle.casebook_screen.specs.declared.piece.Piece.TheVariants.{Text}
use Rattle.casebook_screen.proofs.rows.push_writes.Given as goal

abbrev pub invariant-loop-write : goal.invariant-loop-write
invariant-loop-write l = l.screen ≡ l.fn.screen ++ map (λ write. Text (write_field write)) (take l.write-index l.writes)
