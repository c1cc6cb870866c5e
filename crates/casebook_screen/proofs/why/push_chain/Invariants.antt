use Rattle.std.proofs.Common.{◌≡◌, ◌++◌, map, take}
use Rattle.casebook_screen.specs.declared.piece.Piece.TheVariants.{Number}
use Rattle.casebook_screen.proofs.why.push_chain.Given as goal

abbrev pub invariant-loop-cause : goal.invariant-loop-cause
invariant-loop-cause l = l.screen ≡ l.fn.screen ++ map Number (take l.cause-index l.causes)
