use Rattle.std.proofs.Common.{List, length}
use Rattle.retro_text.specs.declared.span.Span.{Span}
use Rattle.retro_text.specs.inner.Rising.{Covers}
use Rattle.retro_text.proofs.sweep.Sweep.advance.Given as goal

abbrev pub invariant-loop-self : goal.invariant-loop-self
invariant-loop-self l = (spans : List Span) → Covers spans l.index l.initial.self.furthest l.initial.self.rest.now
    → Covers spans l.index l.self.furthest l.self.rest.now

abbrev pub decreases-loop-self : goal.decreases-loop-self
decreases-loop-self l = length l.self.rest.now
