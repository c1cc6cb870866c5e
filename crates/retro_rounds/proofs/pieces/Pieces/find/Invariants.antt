use Rattle.std.proofs.Common.{◌≡◌, ◌-◌, suc, true}
use Rattle.retro_rounds.specs.Refusals.{are_cuts}
use Rattle.retro_rounds.specs.inner.Places.{after_lines}
use Rattle.retro_rounds.proofs.pieces.Pieces.find.Given as goal

abbrev pub invariant-loop-self : goal.invariant-loop-self
invariant-loop-self l = record {
  cuts : are_cuts l.self.cuts.now ≡ true;
  place : after_lines (suc l.index - l.self.end)
      (record { left = l.self.end - suc l.index; cuts = l.self.cuts.now })
      ≡ after_lines (suc l.index - l.fn.self.end)
      (record { left = l.fn.self.end - suc l.index; cuts = l.fn.self.cuts.now });
}

abbrev pub decreases-loop-self : goal.decreases-loop-self
decreases-loop-self l = suc l.index - l.self.end
