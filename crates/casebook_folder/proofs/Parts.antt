-- Parts beside paths, row by row.
use Rattle.std.proofs.Common.{◌≡◌, ℕ, ◌+◌, ◌<◌, ◌≤◌, ◌∙◌, true, false, refl, sym, ap, subst, inl, inr}
use Rattle.std.proofs.Common.{List, [], ◌∷◌, ◌++◌, length, get_or, Some, None}
use Rattle.std.specs.Prelude.{if◌then◌else◌, cond, Bool, Option, IfSome}
use Rattle.std.specs.BTreeMap.{is_at}
use Rattle.std.proofs.Math.ListN.{take, drop}
use Rattle.std.proofs.lemmas.List.{drop_more, take_all, take_more}
use Rattle.std.proofs.lemmas.List.{take-append-drop}
use Rattle.retro_path.specs.Order.{path_cmp, path_eq, path_ties}
use Rattle.retro_path.specs.Path.{PathValue}
use Rattle.casebook_folder.specs.Parts.{Parts, HasNoPart, HaveNoParts, OtherPartsStay}
use Rattle.casebook_folder.specs.Parts.{PartsStayBesides}
use Rattle.casebook_folder.specs.Rows.{row_at}
use Rattle.casebook_folder.specs.inner.Memory.{has_path}
use Rattle.casebook_folder.specs.declared.row.Row.{Row}
use Rattle.casebook_folder.proofs.Small.{decided, none_some, path_refl, same_path}

-- ---- one path

-- no part is beside a path from which parts are removed, or which had none
gone : (p q : PathValue) (old new : Parts) → OtherPartsStay p old new → new p ≡ false → old q ≡ false
    → new q ≡ false
gone p q old new stay none had = elim (decided (path_eq p q)) [
  | inl h ↦ subst (λ x. new x ≡ false) (same_path p q h) none
  | inr h ↦ stay q h ∙ had
]

still_none : (rows : List Row) (p : PathValue) (old new : Parts) → OtherPartsStay p old new
    → new p ≡ false → HaveNoParts old rows → HaveNoParts new rows
still_none [] p old new stay none h = tt
still_none (r ∷ rs) p old new stay none h =
    (gone p r.path old new stay none h.0, still_none rs p old new stay none h.1)

-- ---- rows one after another

with_last : (parts : Parts) (rows : List Row) (r : Row) → HaveNoParts parts rows → HasNoPart parts r
    → HaveNoParts parts (rows ++ r ∷ [])
with_last parts [] r h k = (k, tt)
with_last parts (x ∷ xs) r h k = (h.0, with_last parts xs r h.1 k)

-- one more row has no part beside its path
pub none_more : (rows : List Row) (k : ℕ) (r : Row) (old new : Parts) → k < length rows
    → get_or rows k r ≡ r → OtherPartsStay r.path old new → new r.path ≡ false
    → HaveNoParts old (take k rows) → HaveNoParts new (take (k + 1) rows)
none_more rows k r old new within is stay none h =
    subst (HaveNoParts new) (sym (take_more rows k r within ∙ ap (λ x. take k rows ++ x ∷ []) is))
    (with_last new (take k rows) r (still_none (take k rows) r.path old new stay none h) none)

pub none_at_all : (rows : List Row) (k : ℕ) (parts : Parts) → length rows ≤ k
    → HaveNoParts parts (take k rows) → HaveNoParts parts rows
none_at_all rows k parts all h = subst (HaveNoParts parts) (take_all k rows all) h

not_in : (xs : List Row) (r : Row) (ys : List Row) (q : PathValue) → row_at q (xs ++ r ∷ ys) ≡ None
    → path_eq r.path q ≡ false
not_in [] r ys q e = elim (decided (path_eq r.path q)) [
  | inl h ↦ absurd (none_some r (sym e ∙ ap (λ b. if b then Some r else row_at q ys) h))
  | inr h ↦ h
]
not_in (x ∷ xs) r ys q e = elim (decided (path_eq x.path q)) [
  | inl h ↦ absurd (none_some x (sym e ∙ ap (λ b. if b then Some x else row_at q (xs ++ r ∷ ys)) h))
  | inr h ↦ not_in xs r ys q (sym (ap (λ b. if b then Some x else row_at q (xs ++ r ∷ ys)) h) ∙ e)
]

-- a change beside the path of a row is none beside paths that no row is of
pub stays_more : (rows : List Row) (k : ℕ) (r : Row) (old now new : Parts) → k < length rows
    → get_or rows k r ≡ r → PartsStayBesides rows old now → OtherPartsStay r.path now new
    → PartsStayBesides rows old new
stays_more rows k r old now new within is stays one q e =
    one q (not_in (take k rows) r (drop (k + 1) rows) q (sym (ap (row_at q) split) ∙ e)) ∙ stays q e
  where
    split : rows ≡ take k rows ++ r ∷ drop (k + 1) rows
    split = sym (take-append-drop k rows)
        ∙ ap (λ x. take k rows ++ x) (drop_more rows k r within ∙ ap (λ x. x ∷ drop (k + 1) rows) is)

-- ---- calls one after another, where it is said what a folder held at first

pub stay_twice : {A : Type 0} (o p : Option A) (rows : List Row) (old now new : Parts) → p ≡ o
    → IfSome o (λ first. PartsStayBesides rows old now)
    → IfSome p (λ first. PartsStayBesides rows now new)
    → IfSome o (λ first. PartsStayBesides rows old new)
stay_twice None p rows old now new e h k = tt
stay_twice (Some x) p rows old now new e h k =
    λ q none. subst (λ o. IfSome o (λ first. PartsStayBesides rows now new)) e k q none ∙ h q none

pub step_stays : {A : Type 0} (o p : Option A) (rows : List Row) (k : ℕ) (r : Row) (old now new : Parts)
    → k < length rows → get_or rows k r ≡ r → p ≡ o
    → IfSome o (λ first. PartsStayBesides rows old now)
    → IfSome p (λ first. OtherPartsStay r.path now new)
    → IfSome o (λ first. PartsStayBesides rows old new)
step_stays None p rows k r old now new within is e h one = tt
step_stays (Some x) p rows k r old now new within is e h one =
    stays_more rows k r old now new within is h
    (subst (λ o. IfSome o (λ first. OtherPartsStay r.path now new)) e one)

-- of the same folder under another name
pub parts_stay : {A F : Type 0} (o : Option A) (rows : List Row) (parts : F → Parts) (old : Parts) (x y : F)
    → x ≡ y → IfSome o (λ first. PartsStayBesides rows old (parts y))
    → IfSome o (λ first. PartsStayBesides rows old (parts x))
parts_stay o rows parts old x y e h =
    subst (λ f. IfSome o (λ first. PartsStayBesides rows old (parts f))) (sym e) h

pub step_clears : {A : Type 0} (o p : Option A) (rows : List Row) (k : ℕ) (r : Row) (now new : Parts)
    → k < length rows → get_or rows k r ≡ r → p ≡ o
    → IfSome o (λ first. HaveNoParts now (take k rows))
    → IfSome p (λ first. OtherPartsStay r.path now new) → IfSome p (λ first. new r.path ≡ false)
    → IfSome o (λ first. HaveNoParts new (take (k + 1) rows))
step_clears None p rows k r now new within is e h one none = tt
step_clears (Some x) p rows k r now new within is e h one none =
    none_more rows k r now new within is
    (subst (λ o. IfSome o (λ first. OtherPartsStay r.path now new)) e one)
    (subst (λ o. IfSome o (λ first. new r.path ≡ false)) e none) h

pub all_clear : {A : Type 0} (o : Option A) (rows : List Row) (k : ℕ) (parts : Parts) → length rows ≤ k
    → IfSome o (λ first. HaveNoParts parts (take k rows)) → IfSome o (λ first. HaveNoParts parts rows)
all_clear None rows k parts all h = tt
all_clear (Some x) rows k parts all h = none_at_all rows k parts all h

-- ---- sets of paths

-- a set with a path more or less: at other paths, and at the path
pub others_stay : (p : PathValue) (old new : List PathValue) (has : Bool)
    → ((q : PathValue) → has_path q new ≡ cond (is_at (path_cmp p) q) has (has_path q old))
    → (q : PathValue) → path_eq p q ≡ false → has_path q new ≡ has_path q old
others_stay p old new has updates q e =
    updates q ∙ ap (λ x. cond x has (has_path q old)) (sym (path_ties p q) ∙ e)

pub has_itself : (p : PathValue) (old new : List PathValue) (has : Bool)
    → ((q : PathValue) → has_path q new ≡ cond (is_at (path_cmp p) q) has (has_path q old))
    → has_path p new ≡ has
has_itself p old new has updates =
    updates p ∙ ap (λ x. cond x has (has_path p old)) (sym (path_ties p p) ∙ path_refl p)
