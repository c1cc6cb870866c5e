use Rattle.retro_value.specs.Borrowed.{value_data}
use Rattle.retro_json.specs.Replacements.{replacement_of}
use Rattle.retro_json.proofs.Each.{IsReadTo}
use Rattle.retro_json.proofs.reading.replacements.read_items.Given as goal

abbrev pub invariant-loop-item : goal.invariant-loop-item
invariant-loop-item l = IsReadTo replacement_of value_data (λ edit. edit) l.edits.items l.items l.item-index
