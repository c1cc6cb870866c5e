-- Tests of the entries of a finite map, and of the values that look-ups return.
use Rattle.std.proofs.Common.{◌≡◌, Bool, true, false, cond, List, [], ◌∷◌, Some, refl, sym, ap, ◌∙◌, T}
use Rattle.std.specs.List.{list_all}
use Rattle.std.specs.Cmp.{IsTotalOrder, tied_itself}
use Rattle.std.specs.Ordering.{eq_by_cmp, is_eq}
use Rattle.std.specs.declared.cmp.Ordering.{Ordering}
use Rattle.std.specs.FinMap as map
use Rattle.std.specs.FinMap.{FinMap, IsAntisymmetric, get-entries}
use Rattle.std.specs.FinMap.Entries.{find, is_sorted, below_all}
use Rattle.retro_tree.proofs.Small.{tied, less, both_fst, both_snd, none_some, some_same, first_true, both_true}
use Rattle.retro_tree.proofs.Small.{and_true}

module _ {K X : Type 0} {R : K → K → Ordering} (total : IsTotalOrder R) (exact : IsAntisymmetric R) where
  found_passes : (test : K × X → Bool) (es : List (K × X)) (k : K) (x : X) → list_all test es ≡ true
      → find R k es ≡ Some x → test (k, x) ≡ true
  found_passes test [] k x h is = absurd (none_some x is)
  found_passes test (e ∷ es) k x h is =
      elim (eq_by_cmp R k e.0) as (λ b. eq_by_cmp R k e.0 ≡ b → cond b (Some e.1) (find R k es) ≡ Some x
      → test (k, x) ≡ true) [
        | true ↦ λ t i. (λ j. test (exact k e.0 (tied _ t) j, sym (some_same e.1 x i) j)) ∙ first_true (test e) _ h
        | false ↦ λ t i. found_passes test es k x (both_true (test e) _ h) i
      ] refl is

  never : (e : K × X) (q : K) (x : X) (fs : List (K × X)) → T (below_all R e.0 fs) → q ≡ e.0 → find R q fs ≡ Some x → ⊥
  never e q x [] b same is = none_some x is
  never e q x (f ∷ fs) b same is =
      never e q x fs (both_snd _ _ b) same
      (sym (ap (λ r. cond (is_eq r) (Some f.1) (find R q fs)) (ap (λ k. R k f.0) same
      ∙ less _ (both_fst _ _ b))) ∙ is)

  -- `all` is the whole list, of which `es` is the rest
  each_passes : (test : K × X → Bool) (es all : List (K × X)) → T (is_sorted R es)
      → ((q : K) (x : X) → find R q es ≡ Some x → find R q all ≡ Some x)
      → ((q : K) (x : X) → find R q all ≡ Some x → test (q, x) ≡ true) → list_all test es ≡ true
  each_passes test [] all s keep h = refl
  each_passes test (e ∷ es) all s keep h =
      and_true _ _
      (h e.0 e.1 (keep e.0 e.1 (ap (λ r. cond (is_eq r) (Some e.1) (find R e.0 es)) (tied_itself total e.0))))
      (each_passes test es all (both_snd _ _ s) (λ q x is. keep q x (skip q x (eq_by_cmp R q e.0) refl is)) h)
    where
      skip : (q : K) (x : X) (b : Bool) → eq_by_cmp R q e.0 ≡ b → find R q es ≡ Some x
          → cond b (Some e.1) (find R q es) ≡ Some x
      skip q x true t is = absurd (never e q x es (both_fst _ _ s) (exact q e.0 (tied _ t)) is)
      skip q x false t is = is

  -- a value that a look-up returns passes a test that each entry passes
  pub tested : (test : K × X → Bool) (m : FinMap R X) → list_all test (map.entries m) ≡ true → (k : K) (x : X)
      → map.get m k ≡ Some x → test (k, x) ≡ true
  tested test m h k x is = found_passes test (map.entries m) k x h (sym (get-entries m k) ∙ is)

  -- each entry passes a test that each look-up's value passes
  pub all_tested : (test : K × X → Bool) (m : FinMap R X)
      → ((k : K) (x : X) → map.get m k ≡ Some x → test (k, x) ≡ true) → list_all test (map.entries m) ≡ true
  all_tested test m h =
      each_passes test (map.entries m) (map.entries m) (map.entries_sorted m) (λ q x is. is)
      (λ q x is. h q x (get-entries m q ∙ is))
