use Rattle.casebook_words.proofs.WholeLines.{lines_make_text}
use Rattle.casebook_words.proofs.laws.lines_make_the_text.Goals as goal

pub returns : goal.returns
returns c = lines_make_text
