use Rattle.std.proofs.Common.{length}
use Rattle.casebook_page.proofs.text_line.text_lines.Given as goal

abbrev pub decreases-loop-rest : goal.decreases-loop-rest
decreases-loop-rest l = length l.rest
