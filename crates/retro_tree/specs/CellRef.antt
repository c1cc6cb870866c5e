-- Borrowed cells.
use Rattle.std.specs.Prelude.{Option, Some, None}
use Rattle.retro_tree.specs.Path.{PathValue}
use Rattle.retro_tree.specs.declared.cell.Cell.{Cell}
use Rattle.retro_tree.specs.declared.cell.Cell.TheVariants as cells
use Rattle.retro_tree.specs.declared.cell_ref.CellRef.{CellRef}
use Rattle.retro_tree.specs.declared.cell_ref.CellRef.TheVariants as refs

-- the cell that is borrowed
abbrev pub ref_cell : CellRef → Cell
ref_cell (refs.At p) = cells.At p.now
ref_cell (refs.Cwd sid) = cells.Cwd sid
ref_cell (refs.Var sid name) = cells.Var sid name.now
ref_cell (refs.Status sid) = cells.Status sid

-- the path whose node a cell is
abbrev pub path_in : Cell → Option PathValue
path_in (cells.At p) = Some p
path_in (cells.Cwd sid) = None
path_in (cells.Var sid name) = None
path_in (cells.Status sid) = None
