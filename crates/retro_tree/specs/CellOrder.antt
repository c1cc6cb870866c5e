-- The order of cells, which is derived: by kind, and then by their fields.
use Rattle.std.specs.Prelude.{◌≡◌, refl}
use Rattle.std.proofs.Common.{ap}
use Rattle.std.specs.Ordering.{nat_cmp, ordering_then}
use Rattle.std.specs.Cmp.{IsTotalOrder}
use Rattle.std.specs.FinMap.{IsAntisymmetric, nat_cmp-IsAntisymmetric}
use Rattle.std.specs.Coded.{Coded}
use Rattle.std.specs.declared.cmp.Ordering.{Ordering}
use Rattle.std.specs.declared.cmp.Ordering.TheVariants.{Less, Equal, Greater}
use Rattle.retro_tree.specs.Order.{text_cmp, path_exact, text_exact}
use Rattle.retro_tree.specs.declared.cell.Cell.{Cell}
use Rattle.retro_tree.specs.declared.cell.Cell.TheVariants as cells
use Rattle.retro_tree.specs.declared.overlay_entry.OverlayEntry.{OverlayEntry}
use Rattle.retro_tree.specs.contracts.cell.CellOrd.TheImpl as cell_ord
use Rattle.retro_tree.specs.contracts.cell.CellOrd.TheImpl.Laws as cell_laws
use Rattle.retro_tree.specs.contracts.cell.Cell as cell_type
use Rattle.retro_tree.specs.contracts.overlay_entry.OverlayEntry as overlay_entry_type

abbrev pub cell_cmp : Cell → Cell → Ordering
cell_cmp = (cell_ord.ghosts).cmp

pub cell_total : IsTotalOrder cell_cmp
cell_total = cell_laws.total-law

abbrev pub coded_cell : Coded Cell
coded_cell = (cell_type.the_row).coded

abbrev pub coded_overlay_entry : Coded OverlayEntry
coded_overlay_entry = (overlay_entry_type.the_row).coded

both_equal : (a b : Ordering) → ordering_then a b ≡ Equal → (a ≡ Equal) × (b ≡ Equal)
both_equal Less b e = (e, cc)
both_equal Equal b e = (refl, e)
both_equal Greater b e = (e, cc)

-- cells that compare equal are equal
pub cell_exact : IsAntisymmetric cell_cmp
cell_exact (cells.At p) (cells.At q) e = ap cells.At (path_exact p q e)
cell_exact (cells.At p) (cells.Cwd t) e = cc
cell_exact (cells.At p) (cells.Var t y) e = cc
cell_exact (cells.At p) (cells.Status t) e = cc
cell_exact (cells.Cwd s) (cells.At q) e = cc
cell_exact (cells.Cwd s) (cells.Cwd t) e = ap cells.Cwd (nat_cmp-IsAntisymmetric s t e)
cell_exact (cells.Cwd s) (cells.Var t y) e = cc
cell_exact (cells.Cwd s) (cells.Status t) e = cc
cell_exact (cells.Var s x) (cells.At q) e = cc
cell_exact (cells.Var s x) (cells.Cwd t) e = cc
cell_exact (cells.Var s x) (cells.Var t y) e = let h = both_equal (nat_cmp s t) (text_cmp x y) e in
    λ i. cells.Var (nat_cmp-IsAntisymmetric s t h.0 i) (text_exact x y h.1 i)
cell_exact (cells.Var s x) (cells.Status t) e = cc
cell_exact (cells.Status s) (cells.At q) e = cc
cell_exact (cells.Status s) (cells.Cwd t) e = cc
cell_exact (cells.Status s) (cells.Var t y) e = cc
cell_exact (cells.Status s) (cells.Status t) e = ap cells.Status (nat_cmp-IsAntisymmetric s t e)
