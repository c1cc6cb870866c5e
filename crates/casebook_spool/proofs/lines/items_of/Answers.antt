use Rattle.std.proofs.Common.{◌∙◌, ◌+◌, ap, refl}
use Rattle.std.proofs.lemmas.Result.{err_from_is_err_and}
use Rattle.casebook_spool.proofs.ItemByItem.{loop_done, loop_ends, loop_goes_on}
use Rattle.casebook_spool.proofs.lines.items_of.Goals as goal

pub returns-in_err-item : goal.returns-in_err-item
returns-in_err-item c =
    let p = err_from_is_err_and c.from_residual.result c.from_residual.ensures.1 in
    rw (p.1, p.2)
    (loop_ends (λ row. row.now) c.in_err-item.field-0.0 c.loop-row.items.items c.args.rows.now c.loop-row.row-index _
    _ _ c.loop-row-test.true refl (ap (λ n. n + 1) (c.len.ensures ∙ c.loop-row.items.ok.0))
    c.in_err-item.ensures c.loop-row.invariant)

pub loop-row-preserved : goal.loop-row-preserved
loop-row-preserved c =
    loop_goes_on (λ row. row.now) c.loop-row.items.items c.push.new.self.items c.args.rows.now c.loop-row.row-index _
    _ c.in_ok-item.item _ c.loop-row-test.true refl c.in_ok-push.ensures.items
    (ap (λ n. n + 1) (c.len.ensures ∙ c.loop-row.items.ok.0)) c.in_ok-item.ensures c.loop-row.invariant

pub returns : goal.returns
returns c =
    loop_done (λ row. row.now) c.loop-row.items.items c.args.rows.now c.loop-row.row-index c.loop-row-test.false
    c.loop-row.invariant
