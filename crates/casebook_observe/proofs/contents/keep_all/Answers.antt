use Rattle.std.proofs.Common.{◌∙◌, map}
use Rattle.casebook_observe.proofs.Keeping.{from_index, kept_on, keeps_on, noted_on}
use Rattle.casebook_observe.proofs.contents.keep_all.Goals as goal

pub returns-in_err-keep_change-clause-any : goal.returns-in_err-keep_change-clause-any
returns-in_err-keep_change-clause-any g c = keeps_on _ _ _ c.loop-change.invariant.any c.keep_change.ensures.any

pub returns-in_err-push-clause-any : goal.returns-in_err-push-clause-any
returns-in_err-push-clause-any g c = keeps_on _ _ _ c.loop-change.invariant.any c.keep_change.ensures.any

pub loop-change-preserved : goal.loop-change-preserved
loop-change-preserved g c =
    let item = c.change-item.result in
    let all = map (λ change. change.now) c.args.changes.now in
    let here = from_index (λ change. change.now) c.args.changes.now c.loop-change.change-index _ item c.loop-change-test.true c.change-item.is in
    record {
      same = c.keep_change.ensures.same ∙ c.loop-change.invariant.same;
      noted = noted_on _ _ c.keep_change.result _ _ _ item.now _ _ all c.in_ok-keep_change.was c.loop-change.invariant.same c.in_ok-push.ensures.items here c.keep_change.ensures.note c.loop-change.invariant.noted;
      kept = kept_on _ _ c.keep_change.result c.in_ok-keep_change.field-0 _ _ _ item.now _ _ all c.in_ok-keep_change.was c.loop-change.invariant.same here c.keep_change.ensures.kept c.loop-change.invariant.kept;
      any = keeps_on _ _ _ c.loop-change.invariant.any c.keep_change.ensures.any;
    }
