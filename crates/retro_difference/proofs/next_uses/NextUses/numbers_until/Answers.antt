use Rattle.std.proofs.Common.{◌≡◌, arith, false, rules, true}
use Rattle.std.specs.FinMap as map
use Rattle.retro_difference.proofs.Meetings.{gathering_adds, gathering_passes, gathering_stops}
use Rattle.retro_difference.proofs.next_uses.NextUses.numbers_until.Goals as goal

pub returns-then-used-last : goal.returns-then-used-last
returns-then-used-last c =
    gathering_stops c.args.last c.args.overlay.now c.args.history.now.lines c.args.self.now c.loop-used.used-iterator
    c.in-Some.used.now c.next.new.self c.loop-used.numbers.keys c.in-Some.ensures.steps c.loop-used.invariant
    c.if-used-last.true

pub loop-used-preserved-in-Continue-1 : goal.loop-used-preserved-in-Continue-1
loop-used-preserved-in-Continue-1 c =
    let some : map.contains_key c.args.overlay.now c.in-Some.used.now.1 ≡ true = search rules in
    gathering_adds c.args.last c.args.overlay.now c.args.history.now.lines c.args.self.now c.loop-used.used-iterator
    c.in-Some.used.now c.next.new.self c.loop-used.numbers.keys c.in-Some.ensures.steps c.loop-used.invariant
    c.add_numbers.new.numbers.keys some (omega arith) c.in_ok-add_numbers.ensures

pub loop-used-preserved : goal.loop-used-preserved
loop-used-preserved c =
    let none : map.contains_key c.args.overlay.now c.in-Some.used.now.1 ≡ false = search rules in
    gathering_passes c.args.last c.args.overlay.now c.args.history.now.lines c.args.self.now c.loop-used.used-iterator
    c.in-Some.used.now c.next.new.self c.loop-used.numbers.keys c.in-Some.ensures.steps c.loop-used.invariant none
