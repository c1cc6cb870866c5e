-- The text of the pieces so far.
use Rattle.std.proofs.Common.{◌≡◌, take}
use Rattle.std.specs.Prelude.{flat_map}
use Rattle.casebook_screen.specs.Screen.{piece_text}
use Rattle.casebook_screen.specs.inner.Written.{written_text}
use Rattle.casebook_screen.proofs.screen.Screen.lines.Given as goal

abbrev pub invariant-loop-piece : goal.invariant-loop-piece
invariant-loop-piece l = written_text l.written ≡ flat_map piece_text (take l.piece-index l.piece-items)
