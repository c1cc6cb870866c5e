use Rattle.std.proofs.Common.{arith}
use Rattle.std.proofs.lemmas.Bool.Decides.{nat_tests}
use Rattle.casebook_words.proofs.LineLemmas.{empty_text, first_ended, first_open}
use Rattle.casebook_words.proofs.first_line.split_line.Goals as goal

pub returns-then-is_empty-clause-lines : goal.returns-then-is_empty-clause-lines
returns-then-is_empty-clause-lines c = empty_text c.args.text.now (grind (arith, nat_tests))

pub returns-in-Some-clause-lines : goal.returns-in-Some-clause-lines
returns-in-Some-clause-lines c = first_ended c.args.text.now c.in-Some.end c.in-Some.ensures

pub returns-in-None-clause-lines : goal.returns-in-None-clause-lines
returns-in-None-clause-lines c = first_open c.args.text.now (grind (arith, nat_tests)) c.in-None.ensures
