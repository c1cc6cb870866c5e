use Rattle.std.proofs.Common.{◌∙◌, ◌+◌, ap}
use Rattle.std.proofs.lemmas.Result.{err_from_is_err_and}
use Rattle.serde_json.specs.View.{view}
use Rattle.casebook_case.proofs.ContentByContent.{loop_done, loop_ends, loop_goes_on}
use Rattle.casebook_case.proofs.reading.contents_in.Goals as goal

pub returns-in_err-bytes : goal.returns-in_err-bytes
returns-in_err-bytes c =
    let p = err_from_is_err_and c.from_residual.result c.from_residual.ensures.1 in
    rw (p.1, p.2)
    (loop_ends view c.in_err-bytes.field-0.0 c.loop-item.contents.items c.args.items.now c.loop-item.item-index _
    c.item-item.result _ c.loop-item-test.true c.item-item.is (ap (λ n. n + 1) (c.len.ensures ∙ c.loop-item.contents.ok.0))
    c.in_err-bytes.ensures c.loop-item.invariant)

pub loop-item-preserved : goal.loop-item-preserved
loop-item-preserved c =
    loop_goes_on view c.loop-item.contents.items c.push.new.self.items c.args.items.now c.loop-item.item-index _
    c.item-item.result c.in_ok-bytes.bytes _ c.loop-item-test.true c.item-item.is c.in_ok-push.ensures.items
    (ap (λ n. n + 1) (c.len.ensures ∙ c.loop-item.contents.ok.0)) c.in_ok-bytes.ensures c.loop-item.invariant

pub returns : goal.returns
returns c =
    loop_done view c.loop-item.contents.items c.args.items.now c.loop-item.item-index c.loop-item-test.false
    c.loop-item.invariant
