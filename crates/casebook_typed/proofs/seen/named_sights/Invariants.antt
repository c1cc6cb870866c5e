-- The sights of the paths that are named so far.
use Rattle.std.proofs.Common.{take}
use Rattle.casebook_typed.proofs.NotesSoFar.{HasNamed, named_in}
use Rattle.casebook_typed.proofs.seen.named_sights.Given as goal

abbrev pub invariant-loop-item : goal.invariant-loop-item
invariant-loop-item l = HasNamed l.few l.sights (named_in (take l.item-index l.items))
