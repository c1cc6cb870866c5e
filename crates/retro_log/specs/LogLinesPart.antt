-- The lines of a log: a list of `[number,sid,text,notes,outputhex]`.
use Rattle.std.specs.Prelude.{ℕ, List, [], ◌∷◌, Result, Ok}
use Rattle.serde_json.specs.Data.{Data}
use Rattle.retro_keep.specs.declared.noted.Noted.{Noted}
use Rattle.retro_keep.specs.declared.script.ScriptLine.{ScriptLine}
use Rattle.retro_json.specs.declared.fault.Part.TheVariants.{Lines}
use Rattle.retro_json.specs.declared.fault.Refusal.{Refusal}
use Rattle.retro_json.specs.Steps.{◌>>=◌}
use Rattle.retro_json.specs.Worst.{both, every}
use Rattle.retro_json.specs.Shape.{cells}
use Rattle.retro_log.specs.LinesPart.{head_of}
use Rattle.retro_json.specs.LogFields.{wrong, hex_field}
use Rattle.retro_json.specs.NotesPart.{notes_field}

-- a line with its notes and its output
abbrev pub with_run : ScriptLine → Data → Data → Result (ℕ × Noted) Refusal
with_run head ns o = do
  (notes, output) ← both (notes_field head.sid ns) (hex_field o)
  Ok (head.number, record { sid = head.sid; text = head.text; notes = notes; output = output })

-- the only refusal of the head is the worst, a wrong shape
abbrev pub log_line_cells : List Data → Result (ℕ × Noted) Refusal
log_line_cells (n ∷ s ∷ t ∷ ns ∷ o ∷ []) = do
  head ← head_of n s t
  with_run head ns o
log_line_cells _ = wrong

unfoldable pub log_line_of : Data → Result (ℕ × Noted) Refusal
log_line_of d = cells Lines d >>= log_line_cells

-- the lines, whatever their numbers, sessions and changes; or the worst refusal of the whole list
unfoldable pub log_lines_of : Data → Result (List (ℕ × Noted)) Refusal
log_lines_of d = do
  items ← cells Lines d
  every log_line_of items
