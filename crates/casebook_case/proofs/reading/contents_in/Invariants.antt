use Rattle.serde_json.specs.View.{view}
use Rattle.casebook_case.proofs.ContentByContent.{IsReadTo}
use Rattle.casebook_case.proofs.reading.contents_in.Given as goal

abbrev pub invariant-loop-item : goal.invariant-loop-item
invariant-loop-item l = IsReadTo view l.contents.items l.items l.item-index
