use Rattle.retro_value.specs.Borrowed.{value_data}
use Rattle.retro_json.specs.ReadsAs.{seen}
use Rattle.retro_json.specs.TreePart.{row_of}
use Rattle.retro_json.proofs.Worst.{IsValidatedTo}
use Rattle.casebook_check.proofs.lawless.tree_rows.Given as goal

abbrev pub invariant-loop-item : goal.invariant-loop-item
invariant-loop-item l = IsValidatedTo row_of value_data (seen (λ v. v.items) l.rows) l.items l.item-index
