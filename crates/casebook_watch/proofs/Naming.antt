-- What is found of the entries that pass a test: which paths they have, in which order.
use Rattle.std.proofs.Common.{◌≡◌, ◌∙◌, Bool, true, false, cond, ◌||◌, List, [], ◌∷◌, map}
use Rattle.std.proofs.Common.{Option, Some, None, T, refl, sym, ap, subst}
use Rattle.std.specs.List.{AllByRecursion, filter, list_any}
use Rattle.std.specs.List.Sorted.{IsStrictlySortedBy}
use Rattle.std.specs.Cmp.{tied_itself}
use Rattle.std.specs.FinMap.{find}
use Rattle.std.specs.FinMap.Entries.{is_sorted, below_all}
use Rattle.std.specs.Ordering.{eq_by_cmp, is_eq}
use Rattle.std.specs.declared.cmp.Ordering.TheVariants.{Less}
use Rattle.retro_path.specs.Order.{path_cmp, path_eq, path_exact, path_ties, path_total}
use Rattle.retro_path.specs.Path.{PathValue}
use Rattle.retro_tree.proofs.Small.{both_fst, both_snd, less, none_some, tied}
use Rattle.casebook_watch.specs.declared.sight.Sight.{Sight}

abbrev pub Entry : Type 0
Entry = PathValue × Sight

-- whether a path is that of one of some entries
abbrev pub has_path : PathValue → List Entry → Bool
has_path p = list_any (λ e. path_eq p e.0)

-- whether the sight of a path passes a test, if it has one
abbrev pub passes_at : (Entry → Bool) → PathValue → Option Sight → Bool
passes_at t p None = false
passes_at t p (Some s) = t (p, s)

-- a path before all entries is that of none of them
find_before : (p : PathValue) (es : List Entry) → T (below_all path_cmp p es)
    → find path_cmp p es ≡ None
find_before p [] h = refl
find_before p (e ∷ es) h =
    ap (λ b. cond b (Some e.1) (find path_cmp p es)) (ap is_eq (less _ (both_fst _ _ h)))
    ∙ find_before p es (both_snd _ _ h)

other_path : (p q : PathValue) → path_cmp p q ≡ Less → path_eq p q ≡ false
other_path p q e = path_ties p q ∙ ap is_eq e

none_before : (t : Entry → Bool) (p : PathValue) (es : List Entry) → T (below_all path_cmp p es)
    → has_path p (filter t es) ≡ false
none_before t p [] h = refl
none_before t p (e ∷ es) h =
    elim (t e) as (λ b. has_path p (cond b (e ∷ filter t es) (filter t es)) ≡ false) [
      | true ↦ ap (λ b. b || has_path p (filter t es)) (other_path p e.0 (less _ (both_fst _ _ h)))
          ∙ none_before t p es (both_snd _ _ h)
      | false ↦ none_before t p es (both_snd _ _ h)
    ]

named_here : (t : Entry → Bool) (p : PathValue) (e : Entry) (es : List Entry)
    → T (below_all path_cmp e.0 es)
    → p ≡ e.0 → path_eq p e.0 ≡ true → (b : Bool) → t e ≡ b
    → has_path p (cond b (e ∷ filter t es) (filter t es)) ≡ t (p, e.1)
named_here t p e es h same found true is =
    ap (λ b. b || has_path p (filter t es)) found ∙ sym is ∙ ap (λ q. t (q, e.1)) (sym same)
named_here t p e es h same found false is =
    none_before t p es (subst (λ k. T (below_all path_cmp k es)) (sym same) h) ∙ sym is
    ∙ ap (λ q. t (q, e.1)) (sym same)

named_later : (t : Entry → Bool) (p : PathValue) (e : Entry) (es : List Entry)
    → path_eq p e.0 ≡ false → (b : Bool)
    → has_path p (cond b (e ∷ filter t es) (filter t es)) ≡ has_path p (filter t es)
named_later t p e es other true = ap (λ b. b || has_path p (filter t es)) other
named_later t p e es other false = refl

-- the entries that pass have a path exactly if its own entry passes
pub named_where : (t : Entry → Bool) (p : PathValue) (es : List Entry) → T (is_sorted path_cmp es)
    → has_path p (filter t es) ≡ passes_at t p (find path_cmp p es)
named_where t p [] h = refl
named_where t p (e ∷ es) h =
    elim (eq_by_cmp path_cmp p e.0) as (λ b. eq_by_cmp path_cmp p e.0 ≡ b
    → has_path p (filter t (e ∷ es))
    ≡ passes_at t p (cond b (Some e.1) (find path_cmp p es))) [
      | true ↦ λ k. named_here t p e es (both_fst _ _ h) (path_exact p e.0 (tied _ k))
          (path_ties p e.0 ∙ k) (t e) refl
      | false ↦ λ k. named_later t p e es (path_ties p e.0 ∙ k) (t e)
          ∙ named_where t p es (both_snd _ _ h)
    ] refl

-- a test of what a function makes of the entries is one of the entries
pub any_of_map : {A B : Type 0} (t : B → Bool) (f : A → B) (xs : List A) → list_any t (map f xs)
    ≡ list_any (λ x. t (f x)) xs
any_of_map t f [] = refl
any_of_map t f (x ∷ xs) = ap (λ b. t (f x) || b) (any_of_map t f xs)

-- ---- each entry is found

skip : (p : PathValue) (x : Sight) (e : Entry) (es : List Entry) → T (below_all path_cmp e.0 es)
    → find path_cmp p es ≡ Some x → (b : Bool) → eq_by_cmp path_cmp p e.0 ≡ b
    → cond b (Some e.1) (find path_cmp p es) ≡ Some x
skip p x e es h is true k =
    absurd (none_some x (sym (find_before p es
    (subst (λ q. T (below_all path_cmp q es)) (sym (path_exact p e.0 (tied _ k))) h)) ∙ is))
skip p x e es h is false k = is

-- what a look-up in these entries finds is what `found` has there, so each entry is there
pub each_found : (found : PathValue → Option Sight) (es : List Entry)
    → ((p : PathValue) (x : Sight) → find path_cmp p es ≡ Some x → found p ≡ Some x)
    → T (is_sorted path_cmp es)
    → AllByRecursion (λ e. found e.0 ≡ Some e.1) es
each_found found [] keep h = tt
each_found found (e ∷ es) keep h = (
  keep e.0 e.1 (ap (λ r. cond (is_eq r) (Some e.1) (find path_cmp e.0 es))
      (tied_itself path_total e.0)),
  each_found found es (λ p x is. keep p x (skip p x e es (both_fst _ _ h) is
      (eq_by_cmp path_cmp p e.0) refl))
      (both_snd _ _ h),
)

-- ---- the order

after_all : (t : Entry → Bool) (p : PathValue) (es : List Entry) → T (below_all path_cmp p es)
    → AllByRecursion (λ q. path_cmp p q ≡ Less) (map (λ e. e.0) (filter t es))
after_all t p [] h = tt
after_all t p (e ∷ es) h =
    let rest = after_all t p es (both_snd _ _ h) in
    elim (t e) as (λ b. AllByRecursion (λ q. path_cmp p q ≡ Less)
    (map (λ e. e.0) (cond b (e ∷ filter t es) (filter t es)))) [
      | true ↦ (less _ (both_fst _ _ h), rest)
      | false ↦ rest
    ]

pub sorted_where : (t : Entry → Bool) (es : List Entry) → T (is_sorted path_cmp es)
    → IsStrictlySortedBy path_cmp (map (λ e. e.0) (filter t es))
unfolding IsStrictlySortedBy
sorted_where t [] h = tt
sorted_where t (e ∷ es) h =
    let rest = sorted_where t es (both_snd _ _ h) in
    elim (t e) as (λ b. IsStrictlySortedBy path_cmp (map (λ e. e.0) (cond b (e ∷ filter t es)
    (filter t es)))) [
      | true ↦ (after_all t e.0 es (both_fst _ _ h), rest)
      | false ↦ rest
    ]
