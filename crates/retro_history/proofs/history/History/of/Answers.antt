use Rattle.std.proofs.Common.{ap, subst, sym, ◌∙◌}
use Rattle.retro_history.specs.inner.CellHistory.{history_in}
use Rattle.retro_history.specs.Index.{AreNumbered}
use Rattle.retro_history.specs.inner.IndexSteps.{Indexes, listed_by}
use Rattle.retro_history.specs.declared.index.Index.{Index}
use Rattle.retro_history.proofs.Tracking.{all_indexed, all_tracked, history_after, no_histories}
use Rattle.retro_history.proofs.history.History.of.Goals as goal

pub loop-line-init : goal.loop-line-init
loop-line-init c = record {
  cells = λ d. ap (history_after d c.lines-line-items.result.now)
      (ap (λ (x : Index). history_in d c.first-first.result.now x.cells) c.new-index.ensures
      ∙ no_histories d c.first-first.result.now);
  listed = ap (λ (x : Index). listed_by c.lines-line-items.result.now x.listed) c.new-index.ensures;
}

pub invariant_of-result : goal.invariant_of-result
invariant_of-result c =
    let lines = c.lines-line-items.result.now in
    let same = c.lines-line-items.ensures.value in
    let last = c.loop-line.line-index in
    let first = c.first-first.result.now in
    record {
      well_formed = c.first-first.ensures.well_formed;
      tracked = all_tracked c.args.recording.now c.loop-line.index.cells lines first last same
          c.first-first.ensures.value c.loop-line-test.false c.loop-line.invariant.cells;
      indexed = subst (Indexes c.loop-line.index) same (all_indexed lines first last c.loop-line.index
          (subst AreNumbered (sym same) c.first-first.ensures.well_formed.rising) c.loop-line-test.false
          c.loop-line.invariant.cells c.loop-line.invariant.listed);
    }
