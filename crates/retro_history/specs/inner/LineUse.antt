-- How a line uses each cell, gathered note by note.
use Rattle.std.specs.Prelude.{ℕ, Bool, true, false, ◌||◌, List, [], ◌∷◌, ◌++◌, refl}
use Rattle.std.specs.Bool.{if◌then◌else◌}
use Rattle.std.specs.Coded.{Coded, code_by, coded×, coded_bool, coded_list, coded_ℕ}
use Rattle.std.specs.FinMap as map
use Rattle.std.specs.Option.{unwrap_or}
use Rattle.retro_tree.specs.Maps.{update}
use Rattle.retro_tree.specs.CellOrder.{cell_cmp}
use Rattle.retro_tree.specs.Path.{parent_of, passwd}
use Rattle.retro_tree.specs.Change.{cell_of}
use Rattle.retro_tree.specs.Notes.{cell_eq}
use Rattle.retro_tree.specs.declared.ask.Ask.{Ask}
use Rattle.retro_tree.specs.declared.ask.Ask.TheVariants as asks
use Rattle.retro_tree.specs.declared.cell.Cell.{Cell}
use Rattle.retro_tree.specs.declared.cell.Cell.TheVariants as cells
use Rattle.retro_tree.specs.declared.change.Change.{Change}
use Rattle.retro_tree.specs.declared.note.Note.{Note}
use Rattle.retro_tree.specs.declared.note.Note.TheVariants.{Asked, Made}
use Rattle.retro_tree.specs.contracts.change.Change as change_type

-- the cell that a query is about: the one that its answer depends on, or the first of those
abbrev pub queried_cell : Ask → Cell
queried_cell (asks.Kind p) = cells.At p
queried_cell (asks.Bytes p) = cells.At p
queried_cell (asks.Names p) = cells.At p
queried_cell (asks.CanWrite p more) = cells.At p
queried_cell (asks.User name) = cells.At passwd
queried_cell (asks.VarOf sid name) = cells.Var sid name
queried_cell (asks.CwdOf sid) = cells.Cwd sid
queried_cell (asks.StatusOf sid) = cells.Status sid

-- whether the answer to a query depends on a cell; that a listing depends on the cells of the
-- children doesn't count
abbrev pub depends : Ask → Cell → Bool
depends (asks.CanWrite p more) c = cell_eq (cells.At p) c || cell_eq (cells.At (parent_of p)) c
depends a c = cell_eq (queried_cell a) c

-- whether notes read a cell directly, not by a listing of the cell's parent
abbrev pub reads_directly : List Note → Cell → Bool
reads_directly [] c = false
reads_directly (Asked a r ∷ notes) c = depends a c || reads_directly notes c
reads_directly (Made change ∷ notes) c = reads_directly notes c

-- how a line uses a cell: the line's number, whether its queries read the cell directly, and its
-- changes of the cell, in order
pub record UseValue : Type 0 where
  pub number : ℕ
  pub reads : Bool
  pub changes : List Change

abbrev pub coded_use : Coded UseValue
coded_use =
    code_by (ℕ × (Bool × List Change))
    (coded× coded_ℕ (coded× coded_bool (coded_list (change_type.the_row).coded)))
    (λ u. (u.number, (u.reads, u.changes))) (λ p. record { number = p.0; reads = p.1.0; changes = p.1.1 }) (λ _. refl)

-- a use by line n, without reads and changes
abbrev pub no_use : ℕ → UseValue
no_use n = record { number = n; reads = false; changes = [] }

abbrev pub use_read : UseValue → UseValue
use_read u = record u { reads = true }

abbrev pub use_changed : Change → UseValue → UseValue
use_changed change u = record u { changes = u.changes ++ change ∷ [] }

abbrev pub UseMap : Type 0
UseMap = map.FinMap cell_cmp UseValue

-- how line n uses a cell
abbrev pub use_at : ℕ → UseMap → Cell → UseValue
use_at n m c = unwrap_or (map.get m c) (no_use n)

-- the uses of cells with a read, a change, a query or a list of notes of line n added
abbrev pub with_read : ℕ → Cell → UseMap → UseMap
with_read n c m = update m c (no_use n) use_read

abbrev pub with_change : ℕ → Change → UseMap → UseMap
with_change n change m = update m (cell_of change) (no_use n) (use_changed change)

abbrev pub with_parent : ℕ → Ask → UseMap → UseMap
with_parent n (asks.CanWrite p more) m = with_read n (cells.At (parent_of p)) m
with_parent n _ m = m

abbrev pub with_query : ℕ → Ask → UseMap → UseMap
with_query n a m = with_parent n a (with_read n (queried_cell a) m)

abbrev pub cells_noted : ℕ → List Note → UseMap → UseMap
cells_noted n [] m = m
cells_noted n (Asked a r ∷ notes) m = cells_noted n notes (with_query n a m)
cells_noted n (Made change ∷ notes) m = cells_noted n notes (with_change n change m)

-- whether there are changes
abbrev pub has_changes : List Change → Bool
has_changes [] = false
has_changes (change ∷ changes) = true

-- the use of one cell after notes
abbrev pub use_noted : Cell → List Note → UseValue → UseValue
use_noted c [] u = u
use_noted c (Asked a r ∷ notes) u = use_noted c notes (if depends a c then use_read u else u)
use_noted c (Made change ∷ notes) u =
    use_noted c notes (if cell_eq (cell_of change) c then use_changed change u else u)
