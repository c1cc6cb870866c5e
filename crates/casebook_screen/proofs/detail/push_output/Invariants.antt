use Rattle.std.proofs.Common.{◌≡◌, ◌++◌, map, take}
use Rattle.casebook_screen.specs.declared.piece.Piece.TheVariants.{Text}
use Rattle.casebook_screen.proofs.detail.push_output.Given as goal

abbrev pub invariant-loop-text : goal.invariant-loop-text
invariant-loop-text l = l.screen ≡ l.fn.screen ++ map Text (take l.text-index l.shown)
