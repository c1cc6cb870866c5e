-- The lines that are decided so far are decided as the item says.
use Rattle.std.proofs.Common.{◌≡◌, Bool, length}
use Rattle.casebook_text.specs.Item.{Line}
use Rattle.casebook_text.specs.Lists.{after_item}
use Rattle.casebook_text.specs.inner.LineSets.{IsBoth, in_set}
use Rattle.casebook_text.proofs.chosen_lines.decide.Given as goal

abbrev pub invariant-loop-line : goal.invariant-loop-line
invariant-loop-line l =
    IsBoth l.rest
    × ((line : Line) (before : Bool) → in_set (after_item line before l.item) l.rest l.chosen.keys line
    ≡ in_set (after_item line before l.item) l.fn.rest l.fn.chosen.keys line)

abbrev pub decreases-loop-line : goal.decreases-loop-line
decreases-loop-line l = length l.rest.by_number.keys
