use Rattle.casebook_text.proofs.NumberLists.{all_numbers, next_number}
use Rattle.casebook_text.proofs.number_list.list_of_numbers.Goals as goal

pub loop-index-preserved : goal.loop-index-preserved
loop-index-preserved c =
    next_number c.loop-index.list c.push_number.new.list c.args.numbers.now c.loop-index.index _
    c.loop-index-test.true c.loop-index.invariant c.in_ok-push_number.ensures

pub returns : goal.returns
returns c =
    all_numbers c.loop-index.list c.args.numbers.now c.loop-index.index c.loop-index-test.false
    c.loop-index.invariant
