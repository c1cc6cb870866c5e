use Rattle.casebook_patch.specs.Binary.{line, line_limit}
use Rattle.casebook_patch.specs.inner.Cutting.{AreWritten}
use Rattle.casebook_patch.proofs.base85.push_lines.Given as goal

abbrev pub invariant-loop-piece : goal.invariant-loop-piece
invariant-loop-piece l = AreWritten line line_limit l.initial.text.items l.bytes l.text.items l.piece-iterator
