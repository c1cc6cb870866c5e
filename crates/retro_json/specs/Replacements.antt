-- Lines whose text is replaced, as an option of a command line lists them: a JSON list of
-- `[number,"text"]` (RFC 8259).
use Rattle.std.specs.Prelude.{List, [], ◌∷◌, Option, Result, Ok, Err, ok_or}
use Rattle.std.specs.Result.{result_ok}
use Rattle.serde_json.specs.Data.{Data}
use Rattle.serde_json.specs.Read.{read}
use Rattle.retro_keep.specs.declared.edit.Edit.{Edit}
use Rattle.retro_keep.specs.declared.edit.Edit.TheVariants.{Replace}
use Rattle.retro_json.specs.Shape.{Text, cells, text_in, u32_in}
use Rattle.retro_json.specs.Steps.{◌>>=◌, each}
use Rattle.retro_json.specs.declared.fault.Part.TheVariants.{Document}
use Rattle.retro_json.specs.declared.fault.Refusal.{Refusal}
use Rattle.retro_json.specs.declared.fault.Refusal.TheVariants.{NotJson, WrongShape}

abbrev pub replacement_with : Data → Data → Result Edit Refusal
replacement_with n t = do
  number ← u32_in Document n
  text ← text_in Document t
  Ok (Replace number text)

abbrev pub replacement_cells : List Data → Result Edit Refusal
replacement_cells (n ∷ t ∷ []) = replacement_with n t
replacement_cells _ = Err (WrongShape Document)

-- `[number,"text"]`, with a number of 32 bits
unfoldable pub replacement_of : Data → Result Edit Refusal
replacement_of d = cells Document d >>= replacement_cells

unfoldable pub replacements_of : Data → Result (List Edit) Refusal
replacements_of d = do
  items ← cells Document d
  each replacement_of items

unfoldable pub replacements_read : Text → Result (List Edit) Refusal
replacements_read text = do
  d ← ok_or (read text) NotJson
  replacements_of d

-- the replacements that a text lists, or None if it is no such list
abbrev pub replacements_in : Text → Option (List Edit)
replacements_in text = result_ok (replacements_read text)
