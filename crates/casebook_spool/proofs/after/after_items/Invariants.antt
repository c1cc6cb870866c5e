use Rattle.std.proofs.Common.{◌≡◌, drop}
use Rattle.casebook_spool.specs.After.{after_items}
use Rattle.casebook_spool.proofs.after.after_items.Given as goal

abbrev pub invariant-loop-item : goal.invariant-loop-item
invariant-loop-item l = after_items l.sights (drop l.item-index l.items) ≡ after_items l.initial.sights l.items
