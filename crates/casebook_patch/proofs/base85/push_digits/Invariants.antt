use Rattle.casebook_patch.specs.Binary.{five_of}
use Rattle.casebook_patch.specs.inner.Cutting.{AreWritten}
use Rattle.casebook_patch.proofs.base85.push_digits.Given as goal

abbrev pub invariant-loop-piece : goal.invariant-loop-piece
invariant-loop-piece l = AreWritten five_of 4 l.initial.text.items l.bytes l.text.items l.piece-iterator
