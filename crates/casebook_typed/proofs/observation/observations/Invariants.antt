-- The observations so far, and those of the items that are left with the notes since.
use Rattle.std.proofs.Common.{◌≡◌, ◌++◌, ◌-◌, ◌≤◌, drop, take, map}
use Rattle.casebook_typed.specs.Observations.{notes_in, observations}
use Rattle.casebook_typed.specs.Seeing.{observed}
use Rattle.casebook_typed.proofs.Splitting.{with_notes}
use Rattle.casebook_typed.proofs.observation.observations.Given as goal

abbrev pub invariant-loop-index : goal.invariant-loop-index
invariant-loop-index l = record {
  ordered : l.from ≤ l.index;
  split : map observed l.all.items
      ++ with_notes (notes_in (take (l.index - l.from) (drop l.from l.items))) (observations (drop l.index l.items))
      ≡ observations l.items;
}
