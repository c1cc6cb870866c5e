-- The sights so far lead to those after all changes.
use Rattle.std.proofs.Common.{◌≡◌, drop}
use Rattle.casebook_watch.specs.Delta.{after_changes}
use Rattle.casebook_typed.proofs.NotesSoFar.{named_in}
use Rattle.casebook_typed.proofs.seen.changed_sights.Given as goal

abbrev pub invariant-loop-item : goal.invariant-loop-item
invariant-loop-item l =
    after_changes l.sights (named_in (drop l.item-index l.items)) ≡ after_changes l.initial.sights (named_in l.items)
