-- The lines of a script's document: a list of `[number,sid,text]`.
use Rattle.std.specs.Prelude.{List, [], ◌∷◌, Result, Ok, Err, nat_lt}
use Rattle.serde_json.specs.Data.{Data}
use Rattle.retro_keep.specs.declared.script.ScriptLine.{ScriptLine}
use Rattle.retro_json.specs.declared.fault.Part.TheVariants.{Lines}
use Rattle.retro_json.specs.declared.fault.Refusal.{Refusal}
use Rattle.retro_json.specs.declared.fault.Refusal.TheVariants.{WrongShape}
use Rattle.retro_json.specs.Steps.{◌>>=◌, each, guard}
use Rattle.retro_json.specs.Shape.{cells, text_in, u32_in}

-- the number, the session and the text of a line of a script or of a log
abbrev pub head_of : Data → Data → Data → Result ScriptLine Refusal
head_of n s t = do
  number ← u32_in Lines n
  counted ← guard (nat_lt 0 number) (WrongShape Lines)
  sid ← u32_in Lines s
  text ← text_in Lines t
  Ok (record { number = number; sid = sid; text = text })

abbrev pub line_cells : List Data → Result ScriptLine Refusal
line_cells (n ∷ s ∷ t ∷ []) = head_of n s t
line_cells _ = Err (WrongShape Lines)

unfoldable pub line_of : Data → Result ScriptLine Refusal
line_of d = cells Lines d >>= line_cells

-- the lines, whatever their numbers and sessions
unfoldable pub lines_of : Data → Result (List ScriptLine) Refusal
lines_of d = do
  items ← cells Lines d
  each line_of items
