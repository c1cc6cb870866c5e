use Rattle.casebook_text.proofs.SafeLines.{nothing_safe}
use Rattle.casebook_text.proofs.safe_line.SafeLine.new.Goals as goal

pub invariant_of-result : goal.invariant_of-result
invariant_of-result c = rw c.new.ensures.bytes nothing_safe
