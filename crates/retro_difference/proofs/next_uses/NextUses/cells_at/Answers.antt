use Rattle.std.proofs.Common.{◌≡◌, false, rules, subst}
use Rattle.std.specs.FinMap as map
use Rattle.retro_difference.specs.NextUses.{AreSorted}
use Rattle.retro_difference.proofs.CellLoops.{entries_done, entry_done, entry_passed}
use Rattle.retro_difference.proofs.Entries.{sorted_tail}
use Rattle.retro_difference.proofs.next_uses.NextUses.cells_at.Goals as goal

pub returns-then-used-number : goal.returns-then-used-number
returns-then-used-number c = λ d has key.
    entries_done c.args.number d c.in-Some.used.now c.loop-used.used-iterator c.next.new.self c.loop-used.cells.items
    c.in-Some.ensures.steps c.loop-used.invariant.sorted c.if-used-number.true (c.loop-used.invariant.cells d has key)

pub loop-used-preserved-in_ok-push : goal.loop-used-preserved-in_ok-push
loop-used-preserved-in_ok-push c = record {
  sorted = sorted_tail c.in-Some.used.now c.next.new.self
      (subst AreSorted c.in-Some.ensures.steps c.loop-used.invariant.sorted);
  cells = λ d has key.
      entry_done c.args.number d c.in-Some.used.now c.loop-used.used-iterator c.next.new.self
      c.loop-used.cells.items c.push.new.self.items c.in_ok-copy.field-0 c.in-Some.ensures.steps c.in_ok-copy.ensures
      c.in_ok-push.ensures.items (c.loop-used.invariant.cells d has key);
}

pub loop-used-preserved : goal.loop-used-preserved
loop-used-preserved c =
    let none : map.contains_key c.args.overlay.now c.in-Some.used.now.1 ≡ false = search rules in
    record {
      sorted = sorted_tail c.in-Some.used.now c.next.new.self
          (subst AreSorted c.in-Some.ensures.steps c.loop-used.invariant.sorted);
      cells = λ d has key.
          entry_passed c.args.overlay.now c.args.number d c.in-Some.used.now c.loop-used.used-iterator
          c.next.new.self c.loop-used.cells.items c.in-Some.ensures.steps none key
          (c.loop-used.invariant.cells d has key);
    }
