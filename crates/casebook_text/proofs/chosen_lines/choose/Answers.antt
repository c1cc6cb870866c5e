use Rattle.casebook_text.proofs.LineSetLemmas.{all_chosen, one_more}
use Rattle.casebook_text.proofs.chosen_lines.choose.Goals as goal

pub loop-last-preserved : goal.loop-last-preserved
loop-last-preserved c = (
  c.in_ok-decide.ensures.both,
  λ line. one_more c.loop-last.left.now c.in-Some.before.now c.in-Some.last.now c.loop-last.rest c.decide.new.rest
      c.loop-last.chosen.keys c.decide.new.chosen.keys line _ c.in-Some.ensures.cases.0
      c.in_ok-decide.ensures.decided (c.loop-last.invariant.1 line),
)

pub returns : goal.returns
returns c = λ line.
    all_chosen c.loop-last.left.now c.loop-last.rest c.loop-last.chosen.keys line _
    (rw c.in_default.is at c.split_last.ensures.cases) (c.loop-last.invariant.1 line)
