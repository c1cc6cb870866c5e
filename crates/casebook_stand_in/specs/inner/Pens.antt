-- Pens, which write the texts of stand-ins.
use Rattle.std.specs.Prelude.{◌≤◌, length, string_bytes, IsTrue}
use Rattle.std.specs.List.{list_all}
use Rattle.retro_syntax.specs.Lines.{longest_line}
use Rattle.casebook_stand_in.specs.Lengths.{is_short}
use Rattle.casebook_stand_in.specs.declared.pen.Pen.{Pen}

-- Neither the line of a pen nor one of its texts is too long for a line.
pub record IsShort (pen : Pen) : Type 0 where
  pub line : length (string_bytes pen.line) ≤ longest_line
  pub texts : IsTrue (list_all is_short pen.texts.items)
