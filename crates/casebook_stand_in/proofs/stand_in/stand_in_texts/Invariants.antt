-- No text so far is too long.
use Rattle.casebook_stand_in.specs.inner.Pens.{IsShort}
use Rattle.casebook_stand_in.proofs.stand_in.stand_in_texts.Given as goal

abbrev pub invariant-loop-cell : goal.invariant-loop-cell
invariant-loop-cell l = IsShort l.writer.pen
