use Rattle.casebook_text.proofs.SafeLines.{ellipsis_harmless}
use Rattle.casebook_text.proofs.safe_line.SafeLine.push_ellipsis.Goals as goal

pub push_harmless-requires : goal.push_harmless-requires
push_harmless-requires c = ellipsis_harmless
