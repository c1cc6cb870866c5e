use Rattle.std.proofs.Common.{List}
use Rattle.casebook_text.specs.Item.{Line}
use Rattle.casebook_text.specs.inner.LineSets.{AreAll}
use Rattle.casebook_text.proofs.ListLemmas.{IsReadTo}
use Rattle.casebook_text.proofs.list.checked_items.Given as goal

abbrev pub invariant-loop-index : goal.invariant-loop-index
invariant-loop-index l =
    (lines : List Line) → AreAll lines l.all → IsReadTo lines l.items.items l.texts l.index
