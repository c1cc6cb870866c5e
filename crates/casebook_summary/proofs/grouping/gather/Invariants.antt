-- The lines so far are gathered, and the first lines of all groups are those so far and of the
-- rest.
use Rattle.std.proofs.Common.{◌≡◌, drop, length, take}
use Rattle.std.specs.BTreeMap.{values}
use Rattle.std.specs.List.{fold}
use Rattle.casebook_summary.specs.Groups.{firsts, with_first}
use Rattle.casebook_summary.specs.inner.GroupLines.{AreGathered, ArePlaced}
use Rattle.casebook_summary.proofs.grouping.gather.Given as goal

abbrev pub invariant-loop-notice : goal.invariant-loop-notice
invariant-loop-notice l =
    ArePlaced (length l.gathered.firsts.entries) l.gathered.firsts.entries
    × AreGathered (take l.notice-index l.notices) l.gathered.lines (values l.gathered.firsts)
    × (fold with_first (values l.gathered.firsts) (drop l.notice-index l.notices) ≡ firsts l.notices)
