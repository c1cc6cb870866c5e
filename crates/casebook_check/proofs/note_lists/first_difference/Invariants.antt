use Rattle.std.proofs.Common.{length, take, ◌-◌, ◌≡◌, ◌≤◌}
use Rattle.casebook_check.proofs.note_lists.first_difference.Given as goal

abbrev pub invariant-loop-index : goal.invariant-loop-index
invariant-loop-index l = record {
  same : take l.index l.one ≡ take l.index l.two;
  in_one : l.index ≤ length l.one;
  in_two : l.index ≤ length l.two;
}

abbrev pub decreases-loop-index : goal.decreases-loop-index
decreases-loop-index l = length l.one - l.index
