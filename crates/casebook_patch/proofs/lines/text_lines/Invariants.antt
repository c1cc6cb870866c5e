use Rattle.std.proofs.Common.{length}
use Rattle.casebook_patch.specs.inner.Reading.{AreRead, texts_of}
use Rattle.casebook_patch.proofs.lines.text_lines.Given as goal

abbrev pub invariant-loop-rest : goal.invariant-loop-rest
invariant-loop-rest l = AreRead l.bytes l.rest (texts_of l.lines.items)

abbrev pub decreases-loop-rest : goal.decreases-loop-rest
decreases-loop-rest l = length l.rest
