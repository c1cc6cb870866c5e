use Rattle.std.proofs.Common.{◌≡◌, ◌<◌, ℕ, length, true}
use Rattle.std.specs.FinMap as map
use Rattle.retro_tree.specs.declared.cell.Cell.{Cell}
use Rattle.retro_difference.specs.NextUses.{AreSorted, has_use}
use Rattle.retro_difference.proofs.next_uses.NextUses.prune.Given as goal

abbrev pub invariant-loop-self : goal.invariant-loop-self
invariant-loop-self l = record {
  only : (n : ℕ) (c : Cell) → has_use n c l.self ≡ true → has_use n c l.fn.self ≡ true;
  kept : (n : ℕ) (c : Cell) → l.after < n → map.contains_key l.overlay c ≡ true → has_use n c l.fn.self ≡ true
      → has_use n c l.self ≡ true;
  sorted : AreSorted l.fn.self → AreSorted l.self;
}

abbrev pub decreases-loop-self : goal.decreases-loop-self
decreases-loop-self l = length l.self
