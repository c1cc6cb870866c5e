use Rattle.std.proofs.Common.{◌≡◌, ◌+◌, ◌-◌, ◌≤◌, ◌++◌, drop, length}
use Rattle.retro_history.specs.inner.Numbers.{union}
use Rattle.retro_history.proofs.rising.merge.Given as goal

abbrev pub invariant-loop-i : goal.invariant-loop-i
invariant-loop-i l = record {
  in_one : l.i ≤ length l.one;
  in_two : l.j ≤ length l.two;
  merged : l.merged.items ++ union (drop l.i l.one) (drop l.j l.two) ≡ union l.one l.two;
}

abbrev pub decreases-loop-i : goal.decreases-loop-i
decreases-loop-i l = (length l.one - l.i) + (length l.two - l.j)
