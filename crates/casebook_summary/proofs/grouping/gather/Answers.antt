use Rattle.std.proofs.Common.{take}
use Rattle.std.specs.BTreeMap.{values}
use Rattle.casebook_summary.proofs.GroupLemmas.{gathers_next}
use Rattle.casebook_summary.proofs.grouping.gather.Goals as goal

pub loop-notice-preserved : goal.loop-notice-preserved
loop-notice-preserved c =
    let before = c.loop-notice.gathered in
    let next = gathers_next c.args.notices.now c.loop-notice.notice-index c.notice-item.result (values before.firsts)
    (values c.add.new.self.firsts) c.add.new.self.lines c.loop-notice-test.true c.notice-item.is
    (c.in_ok-add.ensures.one (take c.loop-notice.notice-index c.args.notices.now) c.loop-notice.invariant.1)
    c.loop-notice.invariant.2 in
    (c.in_ok-add.ensures.placed, next.0, next.1)
