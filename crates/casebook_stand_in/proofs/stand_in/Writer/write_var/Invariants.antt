-- No text so far is too long.
use Rattle.casebook_stand_in.specs.inner.Pens.{IsShort}
use Rattle.casebook_stand_in.proofs.stand_in.Writer.write_var.Given as goal

abbrev pub invariant-loop-c : goal.invariant-loop-c
invariant-loop-c l = IsShort l.self.pen
