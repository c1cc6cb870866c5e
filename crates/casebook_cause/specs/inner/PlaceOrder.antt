-- The order of places, which is derived: cells first, and then children by their parents.
use Rattle.std.specs.Prelude.{ℕ}
use Rattle.std.proofs.Common.{ap}
use Rattle.std.specs.Ordering.{nat_cmp, ordering_then}
use Rattle.std.specs.Cmp.{IsTotalOrder}
use Rattle.std.specs.FinMap.{IsAntisymmetric}
use Rattle.std.specs.declared.cmp.Ordering.{Ordering}
use Rattle.retro_tree.specs.CellOrder.{cell_exact}
use Rattle.retro_tree.specs.Order.{path_exact}
use Rattle.casebook_cause.specs.declared.place.SearchPlace.{SearchPlace}
use Rattle.casebook_cause.specs.declared.place.SearchPlace.TheVariants as places
use Rattle.casebook_cause.specs.contracts.place.SearchPlaceOrd.TheImpl as place_ord
use Rattle.casebook_cause.specs.contracts.place.SearchPlaceOrd.TheImpl.Laws as place_laws

abbrev pub place_cmp : SearchPlace → SearchPlace → Ordering
place_cmp = (place_ord.ghosts).cmp

pub place_total : IsTotalOrder place_cmp
place_total = place_laws.total-law

-- places that compare equal are equal
pub place_exact : IsAntisymmetric place_cmp
place_exact (places.Cell c) (places.Cell d) e = ap places.Cell (cell_exact c d e)
place_exact (places.Cell c) (places.ChildrenOf q) e = cc
place_exact (places.ChildrenOf p) (places.Cell d) e = cc
place_exact (places.ChildrenOf p) (places.ChildrenOf q) e = ap places.ChildrenOf (path_exact p q e)

-- a place, and the number of a line
abbrev pub Entry : Type 0
Entry = SearchPlace × ℕ

-- entries are ordered by place, and then by number
abbrev pub entry_cmp : Entry → Entry → Ordering
entry_cmp x y = ordering_then (place_cmp x.0 y.0) (nat_cmp x.1 y.1)
