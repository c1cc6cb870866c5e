-- Maps of the entries of a list.
use Rattle.std.specs.Prelude.{Bool, true, not, ◌&&◌, List, [], ◌∷◌, map, Option, Some, None, if◌then◌else◌}
use Rattle.std.specs.List.{list_any}
use Rattle.std.specs.Ordering.{eq_by_cmp}
use Rattle.std.specs.FinMap.{FinMap, from_entries}
use Rattle.std.specs.declared.cmp.Ordering.{Ordering}

-- no key occurs twice
abbrev pub are_distinct : {K : Type 0} → (K → K → Ordering) → List K → Bool
are_distinct R [] = true
are_distinct R (k ∷ ks) = not (list_any (eq_by_cmp R k) ks) && are_distinct R ks

abbrev pub keys_of : {K X : Type 0} → List (K × X) → List K
keys_of entries = map (λ e. e.0) entries

-- the map of the entries, or none if a key occurs twice
unfoldable pub map_of : {K X : Type 0} (R : K → K → Ordering) → List (K × X) → Option (FinMap R X)
map_of R entries = if are_distinct R (keys_of entries) then Some (from_entries entries) else None
