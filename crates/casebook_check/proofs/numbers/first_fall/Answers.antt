use Rattle.std.proofs.Common.{◌≡◌, Some}
use Rattle.retro_value.specs.Borrowed.{value_data}
use Rattle.casebook_check.specs.Items.{line_number}
use Rattle.casebook_check.proofs.First.{fall_at, fall_on}
use Rattle.casebook_check.proofs.numbers.first_fall.Goals as goal

pub returns-then-number-next-clause-first : goal.returns-then-number-next-clause-first
returns-then-number-next-clause-first c =
    let number : line_number (value_data c.index-items-index.result) ≡ Some c.from-number.result =
    cc (c.in_ok-number_in.ensures, c.from-number.ensures) in
    fall_at value_data c.args.least c.loop-index.next c.from-number.result c.args.items.now c.loop-index.index _
    c.index-items-index.result c.loop-index-test.true c.index-items-index.is number c.if-number-next.true
    c.loop-index.invariant

pub loop-index-preserved : goal.loop-index-preserved
loop-index-preserved c =
    let number : line_number (value_data c.index-items-index.result) ≡ Some c.from-number.result =
    cc (c.in_ok-number_in.ensures, c.from-number.ensures) in
    fall_on value_data c.args.least c.loop-index.next c.from-number.result c.args.items.now c.loop-index.index _
    c.index-items-index.result c.loop-index-test.true c.index-items-index.is number c.if-number-next.false
    c.loop-index.invariant
