-- Binary search finds what has a path, where paths rise.
use Rattle.std.proofs.Common.{◌≡◌, Bool, true, false, refl, sym, ap, subst, ◌∙◌, ℕ, zero, suc, ◌<◌}
use Rattle.std.proofs.Common.{List, [], ◌∷◌, get_or, length, map, arith, ⊎_elim, Option, Some, None}
use Rattle.std.proofs.Common.{Result, Ok, Err}
use Rattle.std.specs.Prelude.{if◌then◌else◌}
use Rattle.std.specs.List.{AllByRecursion}
use Rattle.std.specs.List.Sorted.{IsBinarySearchResult, IsNonDecreasingBy, IsSearchInRange}
use Rattle.std.specs.List.Sorted.{IsSortedBy, IsStrictlySortedBy}
use Rattle.std.specs.Option.{is_some, option_map}
use Rattle.std.specs.Result.{is_ok}
use Rattle.std.specs.Ordering.{is_eq, is_lt, ordering_index, ordering_reverse}
use Rattle.std.specs.declared.cmp.Ordering.TheVariants.{Less}
use Rattle.std.proofs.lemmas.Bool.{cases_lt}
use Rattle.std.proofs.lemmas.List.Sorted.{searchable_from_sorted}
use native.Mathlib.Numerals.{add-one}
use Rattle.retro_path.specs.Order.{path_cmp, path_eq, path_exact, path_ties, path_total}
use Rattle.retro_path.specs.Path.{PathValue}
use Rattle.casebook_folder.specs.Plans.{change_at, planned_path, row_of}
use Rattle.casebook_folder.specs.Rows.{AreInOrder, path_of, row_at}
use Rattle.casebook_folder.specs.declared.change.Change.{Change}
use Rattle.casebook_folder.specs.declared.planned_row.PlannedRow.{PlannedRow}
use Rattle.casebook_folder.specs.declared.row.Row.{Row}
use Rattle.casebook_folder.proofs.Small.{path_refl}

-- what is before a path isn't that path
before_differs : (p q : PathValue) → path_cmp p q ≡ Less → path_eq p q ≡ false
before_differs p q e = path_ties p q ∙ ap is_eq e

-- what is after a path isn't before it
after_not_before : (p q : PathValue) → path_cmp p q ≡ Less → is_lt (path_cmp q p) ≡ false
after_not_before p q e = ap is_lt (path_total.antisymm q p ∙ ap ordering_reverse e)

module _ {X : Type 0} (path_at : X → PathValue) where
  abbrev AreSorted : List X → Type 0
  AreSorted xs = IsStrictlySortedBy path_cmp (map path_at xs)

  -- the first that has a path, or None if none has it
  abbrev with_path : PathValue → List X → Option X
  with_path q [] = None
  with_path q (x ∷ xs) = if path_eq (path_at x) q then Some x else with_path q xs

  -- one of what is after a path is after it
  later_at : (p : PathValue) (xs : List X) (i : ℕ) (d : X)
      → AllByRecursion (λ q. path_cmp p q ≡ Less) (map path_at xs) → i < length xs
      → path_cmp p (path_at (get_or xs i d)) ≡ Less
  later_at p [] i d h lt = absurd (omega (arith, lt))
  later_at p (x ∷ xs) zero d h lt = h.0
  later_at p (x ∷ xs) (suc i) d h lt = later_at p xs i d h.1 (omega arith)

  -- none is before the one before it
  sorted_by : (xs : List X) → AreSorted xs
      → IsSortedBy (λ x y. is_lt (path_cmp (path_at x) (path_at y))) xs
  unfolding IsStrictlySortedBy
  sorted_by [] h k d le lt = absurd (omega (arith, lt))
  sorted_by (x ∷ xs) h zero d le lt =
      after_not_before (path_at x) _ (later_at (path_at x) xs 0 d h.0 (omega arith))
  sorted_by (x ∷ xs) h (suc k) d le lt =
      let rest = sorted_by xs h.1 k d (omega arith) (omega arith) in
      rw (add-one (suc k)) (rw (add-one k) at rest)

  -- what is found at an index is the first that has the path
  found_at : (xs : List X) (i : ℕ) (d : X) → AreSorted xs → i < length xs
      → with_path (path_at (get_or xs i d)) xs ≡ Some (get_or xs i d)
  unfolding IsStrictlySortedBy
  found_at [] i d h lt = absurd (omega (arith, lt))
  found_at (x ∷ xs) zero d h lt = rw (path_refl (path_at x)) refl
  found_at (x ∷ xs) (suc i) d h lt =
      rw (before_differs (path_at x) _ (later_at (path_at x) xs i d h.0 (omega arith)))
      (found_at xs i d h.1 (omega arith))

  -- a path that nothing has isn't found
  found_nowhere : (xs : List X) (q : PathValue)
      → ((i : ℕ) (d : X) → i < length xs → path_eq (path_at (get_or xs i d)) q ≡ false)
      → with_path q xs ≡ None
  found_nowhere [] q none = refl
  found_nowhere (x ∷ xs) q none =
      rw (none 0 x (omega arith)) (found_nowhere xs q (λ i d lt. none (suc i) d (omega arith)))

  module _ (xs : List X) (q : PathValue) (sorted : AreSorted xs) where
    -- the comparisons with the path rise, as binary search requires
    comparisons_rise : IsNonDecreasingBy (λ x. ordering_index (path_cmp (path_at x) q)) xs
    comparisons_rise = searchable_from_sorted path_total path_at xs q (sorted_by xs sorted)

    -- a search that found nothing
    pub search_none : (place : ℕ)
        → IsBinarySearchResult (λ x. path_cmp (path_at x) q) xs (Err place)
        → with_path q xs ≡ None
    search_none place parted = found_nowhere xs q (λ i d lt. ⊎_elim
        (λ before. path_ties _ q ∙ ap is_eq ((parted comparisons_rise).0 i d (omega arith) before))
        (λ after. path_ties _ q ∙ ap is_eq ((parted comparisons_rise).1 i d after lt))
        (cases_lt i place))

    -- a search that found something
    pub search_found : (i : ℕ) (d : X) → i < length xs
        → IsBinarySearchResult (λ x. path_cmp (path_at x) q) xs (Ok i)
        → with_path q xs ≡ Some (get_or xs i d)
    search_found i d lt equal =
        subst (λ p. with_path p xs ≡ Some (get_or xs i d)) (path_exact _ q (equal d))
        (found_at xs i d sorted lt)

-- ---- rows of plans

abbrev change_in : PlannedRow → Change
change_in r = r.change

by_test : (b : Bool) (r : PlannedRow) (o : Option PlannedRow) (rest : Option Change)
    → rest ≡ option_map change_in o
    → (if b then Some r.change else rest) ≡ option_map change_in (if b then Some r else o)
by_test true r o rest e = refl
by_test false r o rest e = e

change_found : (q : PathValue) (plan : List PlannedRow)
    → change_at q plan ≡ option_map change_in (with_path planned_path q plan)
change_found q [] = refl
change_found q (r ∷ plan) = by_test (path_eq r.change.path q) r _ _ (change_found q plan)

planned_paths : (plan : List PlannedRow)
    → map path_of (map row_of plan) ≡ map planned_path plan
planned_paths [] = refl
planned_paths (r ∷ plan) = ap (λ ps. r.change.path ∷ ps) (planned_paths plan)

module _ (plan : List PlannedRow) (q : PathValue) (in_order : AreInOrder (map row_of plan)) where
  sorted_plan : AreSorted planned_path plan
  sorted_plan = subst (IsStrictlySortedBy path_cmp) (planned_paths plan) in_order

  -- a search that found no change of a path
  pub change_at_none : (place : ℕ)
      → IsBinarySearchResult (λ r. path_cmp (planned_path r) q) plan (Err place)
      → change_at q plan ≡ None
  change_at_none place parted =
      change_found q plan
      ∙ ap (option_map change_in) (search_none planned_path plan q sorted_plan place parted)

  -- a search that found the change of a path
  pub change_at_found : (i : ℕ) (d : PlannedRow) → i < length plan
      → IsBinarySearchResult (λ r. path_cmp (planned_path r) q) plan (Ok i)
      → change_at q plan ≡ Some (get_or plan i d).change
  change_at_found i d lt equal =
      change_found q plan
      ∙ ap (option_map change_in) (search_found planned_path plan q sorted_plan i d lt equal)

-- ---- rows

row_found : (q : PathValue) (rows : List Row) → row_at q rows ≡ with_path path_of q rows
row_found q [] = refl
row_found q (r ∷ rows) = ap (λ o. if path_eq r.path q then Some r else o) (row_found q rows)

-- an item of a list that has one
item_at : (rows : List Row) (i : ℕ) → i < length rows → Row
item_at [] i lt = absurd (omega (arith, lt))
item_at (r ∷ rows) i lt = r

-- a search finds a row of a path if there is one
pub found_if_row : (rows : List Row) (q : PathValue) → AreInOrder rows → (r : Result ℕ ℕ)
    → IsSearchInRange r (length rows)
    → IsBinarySearchResult (λ r. path_cmp (path_of r) q) rows r
    → is_ok r ≡ is_some (row_at q rows)
found_if_row rows q in_order (Ok i) lt equal =
    sym (ap is_some (row_found q rows
    ∙ search_found path_of rows q in_order i (item_at rows i lt) lt equal))
found_if_row rows q in_order (Err place) le parted =
    sym (ap is_some (row_found q rows ∙ search_none path_of rows q in_order place parted))
