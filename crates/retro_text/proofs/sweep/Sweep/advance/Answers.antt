use Rattle.std.proofs.Common.{arith}
use Rattle.std.specs.Prelude.{None}
use Rattle.std.proofs.lemmas.List.{get_or_default}
use Rattle.retro_text.proofs.Rising.{decided, still_covered}
use Rattle.retro_text.proofs.sweep.Sweep.advance.Goals as goal

pub returns-in_default : goal.returns-in_default
returns-in_default c = λ spans covered.
    let rest = c.loop-self.self.rest.now in
    let now = c.loop-self.invariant spans covered in (
      decided spans rest c.args.index c.loop-self.self.furthest
          (λ d some. absurd (omega (arith, some, c.in_default.len_below))) now,
      still_covered spans rest c.args.index c.loop-self.self.furthest now,
    )

pub returns-then-span-index : goal.returns-then-span-index
returns-then-span-index c = λ spans covered.
    let rest = c.loop-self.self.rest.now in
    let now = c.loop-self.invariant spans covered in (
      decided spans rest c.args.index c.loop-self.self.furthest
          (λ d some. rw (get_or_default rest 0 d (record { first = 0; last = None }) some) c.if-span-index.true) now,
      still_covered spans rest c.args.index c.loop-self.self.furthest now,
    )
