-- Documents as the definitions have them.
use Rattle.std.specs.Prelude.{option_map}
use Rattle.casebook_repairs.specs.Inputs.{DocumentValue, InputsValue}
use Rattle.casebook_repairs.specs.declared.document.Document.{Document}
use Rattle.casebook_repairs.specs.declared.inputs.Inputs.{Inputs}

abbrev pub document_view : Document → DocumentValue
document_view document = record { name = document.name.now; bytes = document.bytes.items }

abbrev pub inputs_view : Inputs → InputsValue
inputs_view inputs = record {
  log = document_view inputs.log;
  list = option_map document_view inputs.list;
  about = option_map document_view inputs.about;
}
