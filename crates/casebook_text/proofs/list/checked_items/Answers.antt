use Rattle.casebook_text.proofs.ListLemmas.{read_on, refused_at, all_read}
use Rattle.casebook_text.proofs.list.checked_items.Goals as goal

pub returns-in-Err : goal.returns-in-Err
returns-in-Err c = λ lines all.
    refused_at lines c.loop-index.items.items c.args.texts.now c.loop-index.index _ c.in-Err.fault
    c.loop-index-test.true (c.in-Err.ensures lines all) (c.loop-index.invariant lines all)

pub loop-index-preserved : goal.loop-index-preserved
loop-index-preserved c = λ lines all.
    read_on lines c.loop-index.items.items c.push.new.self.items c.args.texts.now c.loop-index.index _
    c.in-Ok.item
    c.loop-index-test.true (c.in-Ok.ensures lines all) c.in_ok-push-in-Ok.ensures.items
    (c.loop-index.invariant lines all)

pub returns : goal.returns
returns c = λ lines all.
    all_read lines c.loop-index.items.items c.args.texts.now c.loop-index.index c.loop-index-test.false
    (c.loop-index.invariant lines all)
