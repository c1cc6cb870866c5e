use Rattle.std.proofs.Common.{length}
use Rattle.casebook_words.proofs.Fronts.{AreAfter}
use Rattle.casebook_words.proofs.common_front.after_common.Given as goal

abbrev pub invariant-loop-old_after : goal.invariant-loop-old_after
invariant-loop-old_after l = AreAfter l.old l.new l.before l.old_rest l.new_rest

abbrev pub decreases-loop-old_after : goal.decreases-loop-old_after
decreases-loop-old_after l = length l.old_rest
