use Rattle.casebook_words.proofs.Fronts.{next_line}
use Rattle.casebook_words.proofs.common_front.after_common.Goals as goal

pub loop-old_after-preserved : goal.loop-old_after-preserved
loop-old_after-preserved c =
    next_line c.args.old.now c.args.new.now c.loop-old_after.before c.loop-old_after.old_rest.now c.loop-old_after.new_rest.now
    c.in-Some.old_after.now c.in-Some.new_after.now c.loop-old_after.invariant c.in-Some.ensures
