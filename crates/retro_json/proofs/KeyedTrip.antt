-- A map is the map of its entries.
use Rattle.std.proofs.Common.{◌≡◌, ◌∙◌, true, false, List, [], ◌∷◌, Some, refl, sym, T}
use Rattle.std.specs.List.{list_any}
use Rattle.std.specs.Ordering.{eq_by_cmp}
use Rattle.std.specs.Cmp.{IsTotalOrder}
use Rattle.std.specs.declared.cmp.Ordering.{Ordering}
use Rattle.std.specs.FinMap.{FinMap, IsAntisymmetric, entries, entries_sorted, from_entries, get-entries}
use Rattle.std.specs.FinMap.{get-from_entries, same_map}
use Rattle.std.specs.FinMap.Entries.{is_sorted, below_all}
use Rattle.retro_tree.proofs.Small.{less, both_fst, both_snd}
use Rattle.retro_json.specs.Keyed.{are_distinct, keys_of, map_of}

module _ {K X : Type 0} (R : K → K → Ordering) where
  -- a key below all others isn't among them
  apart : (k : K) (es : List (K × X)) → T (below_all R k es) → list_any (eq_by_cmp R k) (keys_of es) ≡ false
  apart k [] h = refl
  apart k (e ∷ es) h =
      let first = less (R k e.0) (both_fst _ _ h) in
      rw first (apart k es (both_snd _ _ h))

  pub distinct : (es : List (K × X)) → T (is_sorted R es) → are_distinct R (keys_of es) ≡ true
  distinct [] h = refl
  distinct (e ∷ es) h = rw (apart e.0 es (both_fst _ _ h)) (distinct es (both_snd _ _ h))

module _ {K X : Type 0} {R : K → K → Ordering} (o : IsTotalOrder R) (same : IsAntisymmetric R) where
  pub entries_again : (m : FinMap R X) → from_entries {R = R} (entries m) ≡ m
  entries_again m =
      same_map o same (from_entries (entries m)) m
      (λ q. get-from_entries o (entries m) q ∙ sym (get-entries m q))

  pub map_again : (m : FinMap R X) → map_of R (entries m) ≡ Some m
  unfolding map_of
  map_again m = rw (distinct R (entries m) (entries_sorted m), entries_again m) refl
