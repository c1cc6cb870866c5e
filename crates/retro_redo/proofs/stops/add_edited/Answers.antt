use Rattle.std.proofs.Common.{arith, refl, ◌+◌, ◌≡◌}
use Rattle.std.specs.FinMap as finmap
use Rattle.retro_redo.proofs.EditedNumbers.{marking_ends, marking_goes_on}
use Rattle.retro_difference.proofs.Meetings.{was_added}
use Rattle.retro_redo.proofs.stops.add_edited.Goals as goal

pub returns-then-number-last-2 : goal.returns-then-number-last-2
returns-then-number-last-2 c =
    let edited = finmap.contains_key c.args.edits.now in
    let number = c.in-Some.number in
    let same : c.in-Some.number ≡ c.args.last = c.if-number-last-2.true in
    marking_ends edited c.args.from c.args.last (number + 1) c.args.numbers.now.keys c.insert.new.self.keys
    (marking_goes_on edited c.args.from c.args.last c.loop-number.low c.args.numbers.now.keys
    c.loop-number.numbers.keys c.loop-number.invariant c.insert.new.self.keys number (number + 1) c.in-Some.ensures
    (omega (arith, same)) refl
    (was_added c.loop-number.numbers c.insert.new.self number c.in_ok-insert.ensures.updates.0))
    (λ n above within. absurd (omega (arith, same, above, within)))

pub loop-number-preserved : goal.loop-number-preserved
loop-number-preserved c =
    let number = c.in-Some.number in
    marking_goes_on (finmap.contains_key c.args.edits.now) c.args.from c.args.last c.loop-number.low
    c.args.numbers.now.keys c.loop-number.numbers.keys c.loop-number.invariant c.insert.new.self.keys number (number + 1)
    c.in-Some.ensures (omega (arith, c.if-number-last.false)) refl
    (was_added c.loop-number.numbers c.insert.new.self number c.in_ok-insert.ensures.updates.0)
