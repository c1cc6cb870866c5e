use Rattle.std.proofs.Common.{◌≡◌, List, map, take}
use Rattle.casebook_summary.specs.Groups.{group_of, group_value}
use Rattle.casebook_summary.specs.declared.notice.Notice.{Notice}
use Rattle.casebook_summary.specs.inner.GroupLines.{AreGathered}
use Rattle.casebook_summary.proofs.grouping.groups_of.Given as goal

abbrev pub invariant-loop-first : goal.invariant-loop-first
invariant-loop-first l =
    (notices all : List Notice) → AreGathered notices l.lines all
    → map group_value l.groups.items ≡ map (group_of notices) (take l.first-index l.firsts)
