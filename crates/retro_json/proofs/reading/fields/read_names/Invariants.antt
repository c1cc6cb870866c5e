use Rattle.retro_value.specs.Borrowed.{value_data}
use Rattle.retro_json.specs.LogFields.{name_field}
use Rattle.retro_json.specs.ReadsAs.{seen}
use Rattle.retro_json.proofs.Worst.{IsValidatedTo}
use Rattle.retro_json.proofs.reading.fields.read_names.Given as goal

abbrev pub invariant-loop-item : goal.invariant-loop-item
invariant-loop-item l = IsValidatedTo name_field value_data (seen (λ v. v.items) l.names) l.items l.item-index
