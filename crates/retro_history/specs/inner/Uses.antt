-- The lines that use a cell.
use Rattle.std.specs.Prelude.{[]}
use Rattle.retro_history.specs.inner.LineUse.{UseValue, has_changes}
use Rattle.retro_history.specs.inner.Numbers.{noted}
use Rattle.retro_history.specs.declared.uses.Uses.{Uses}

-- no lines
abbrev pub no_uses : Uses
no_uses = record { written = []; read = [] }

-- a line added to those that write the cell if it changes the cell, and to those that read it if it
-- reads it
abbrev pub uses_with : UseValue → Uses → Uses
uses_with u uses = record {
  written = noted (has_changes u.changes) u.number uses.written;
  read = noted u.reads u.number uses.read;
}
