use Rattle.casebook_text.proofs.Harmless.{left_harmless, right_harmless}
use Rattle.casebook_text.proofs.safe_line.SafeLine.push_remark.Goals as goal

pub push_harmless-requires : goal.push_harmless-requires
push_harmless-requires c = left_harmless

pub push_harmless-requires-2 : goal.push_harmless-requires-2
push_harmless-requires-2 c = right_harmless
