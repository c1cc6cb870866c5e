use Rattle.std.proofs.Common.{◌+◌, ◌-◌, ◌∙◌, suc, ap}
use Rattle.retro_rounds.specs.inner.Places.{after_lines}
use Rattle.retro_rounds.proofs.Places.{next_piece}
use Rattle.retro_rounds.proofs.pieces.Pieces.find.Goals as goal

pub loop-self-preserved : goal.loop-self-preserved
loop-self-preserved c = record {
  cuts = c.later_cuts-self.ensures.are_cuts c.loop-self.invariant.cuts;
  place = ap (λ cs. after_lines (suc c.args.index - (c.loop-self.self.end + c.first_cut.result))
      (record { left = c.loop-self.self.end + c.first_cut.result - suc c.args.index; cuts = cs }))
      c.later_cuts-self.ensures.cuts
      ∙ next_piece c.args.index c.loop-self.self.end c.first_cut.result c.loop-self.self.cuts.now c.loop-self-test.true
      c.first_cut.ensures.some c.first_cut.ensures.first
      ∙ c.loop-self.invariant.place;
}
