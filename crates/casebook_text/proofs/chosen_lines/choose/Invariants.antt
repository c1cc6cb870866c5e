-- The items that are left decide about the rest of the lines.
use Rattle.std.proofs.Common.{◌≡◌, ◌&&◌, length}
use Rattle.casebook_text.specs.Item.{Line}
use Rattle.casebook_text.specs.Lists.{is_chosen}
use Rattle.casebook_text.specs.inner.LineSets.{IsBoth, has_line, in_set}
use Rattle.casebook_text.proofs.chosen_lines.choose.Given as goal

abbrev pub invariant-loop-last : goal.invariant-loop-last
invariant-loop-last l =
    IsBoth l.rest
    × ((line : Line) → in_set (is_chosen l.left line) l.rest l.chosen.keys line
    ≡ (has_line line l.fn.all && is_chosen l.items line))

abbrev pub decreases-loop-last : goal.decreases-loop-last
decreases-loop-last l = length l.left
