use Rattle.std.proofs.Common.{◌∙◌, ◌||◌, ◌++◌, refl, ap, arith, sym, ◌<◌, length}
use Rattle.std.proofs.lemmas.List.{length-set}
use borrow.Author.Tests.{lt-ltb}
use Rattle.casebook_typed.specs.inner.Lists.{list_at, span_if}
use Rattle.casebook_typed.proofs.ActiveSoFar.{active_here, at_end, grown, started_more}
use Rattle.casebook_typed.proofs.active.add.Goals as goal

pub loop-at-preserved : goal.loop-at-preserved
loop-at-preserved c =
    let below : c.loop-at.at < length c.args.steps.now = omega (arith, c.end_of_span-at-end.ensures.within) in
    record {
      since = omega arith;
      each = length-set c.loop-at.lists c.loop-at.at c.push_if.new.list ∙ c.loop-at.invariant.each;
      starts = ap (λ b. c.loop-at.starts || b) c.is_start_from-starts.ensures
          ∙ started_more c.args.steps.now c.args.span.now.since c.loop-at.at c.args.span.now.session _ _ c.loop-at.starts c.loop-at.invariant.since below refl
          c.loop-at.invariant.starts;
      so_far = grown c.loop-at.lists (list_at c.args.lists.now) c.push_if.new.list _ c.loop-at.at (length c.args.steps.now) c.args.steps.now c.args.span.now
          c.is_awake.result (omega arith) below c.in_ok-push_if.ensures
          (c.is_awake.ensures ∙ active_here c.args.steps.now c.args.span.now c.loop-at.at c.loop-at.starts c.loop-at.invariant.since
          (sym (c.end_of_span-at-end.ensures.value c.loop-at.at below) ∙ lt-ltb c.loop-at.at c.end_of_span-at-end.result c.loop-at-test.true) c.loop-at.invariant.starts)
          c.loop-at.invariant.so_far;
    }

pub returns-clause-value : goal.returns-clause-value
returns-clause-value c = λ k h.
    c.loop-at.invariant.so_far k h
    ∙ ap (λ b. list_at c.args.lists.now k ++ span_if c.args.span.now b) (at_end c.args.steps.now c.args.span.now c.loop-at.at
    c.end_of_span-at-end.result c.loop-at-test.false c.end_of_span-at-end.ensures.within c.end_of_span-at-end.ensures.value k h)
