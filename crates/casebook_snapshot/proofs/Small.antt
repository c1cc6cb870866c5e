-- Small laws of tests, options and paths.
use Rattle.std.proofs.Common.{◌≡◌, ℕ, true, not, refl, sym, ap, ◌∙◌, ◌⊎◌, inl, inr, List, []}
use Rattle.std.proofs.Common.{◌∷◌, ◌++◌, append_assoc, Option, Some, None}
use Rattle.std.specs.Prelude.{is_some, IfSome}
use Rattle.std.specs.Ordering.{is_eq}
use Rattle.std.proofs.lemmas.Bool.{false≢true}
use Rattle.retro_path.specs.Order.{path_cmp, path_exact, path_ties}
use Rattle.retro_path.specs.Path.{PathValue, parent_of, last_of}
use Rattle.casebook_folder.proofs.Small.{none_some, tied, path_refl}

pub both_some : {A : Type 0} (o : Option A) {P Q R : A → Type 0}
    → IfSome o P → IfSome o Q → ((a : A) → P a → Q a → R a) → IfSome o R
both_some None p q f = tt
both_some (Some a) p q f = f a p q

pub some_always : {A : Type 0} (o : Option A) {P : A → Type 0} → ((a : A) → P a) → IfSome o P
some_always None f = tt
some_always (Some a) f = f a

-- an option is none or some
pub seen : {A : Type 0} (o : Option A) → (o ≡ None) ⊎ ((a : A) × (o ≡ Some a))
seen None = inl refl
seen (Some a) = inr (a, refl)

pub no_some : {A : Type 0} (o : Option A) → not (is_some o) ≡ true → o ≡ None
no_some None h = refl
no_some (Some a) h = absurd (false≢true h)

pub is_none : {A : Type 0} (o : Option A) → o ≡ None → not (is_some o) ≡ true
is_none o e = ap (λ x. not (is_some x)) e

pub not_both : {A : Type 0} (o : Option A) (a : A) → o ≡ None → o ≡ Some a → ⊥
not_both o a n s = none_some a (sym n ∙ s)

pub along : (p : PathValue) (n : List ℕ) (r : PathValue) → (p ++ n ∷ []) ++ r ≡ p ++ n ∷ r
along p n r = append_assoc p (n ∷ []) r

pub last_of_child : (p : PathValue) (n : List ℕ) → last_of (p ++ n ∷ []) ≡ Some n
last_of_child [] n = refl
last_of_child (m ∷ []) n = refl
last_of_child (m ∷ k ∷ p) n = last_of_child (k ∷ p) n

pub parent_below : (a : PathValue) (n : List ℕ) (r : PathValue)
    → parent_of (a ++ n ∷ r) ≡ a ++ parent_of (n ∷ r)
parent_below [] n r = refl
parent_below (m ∷ []) n r = refl
parent_below (m ∷ k ∷ a) n r = ap (λ x. m ∷ x) (parent_below (k ∷ a) n r)

pub tied_paths : (p q : PathValue) → is_eq (path_cmp p q) ≡ true → p ≡ q
tied_paths p q e = path_exact p q (tied (path_cmp p q) e)

pub tied_itself : (p : PathValue) → is_eq (path_cmp p p) ≡ true
tied_itself p = sym (path_ties p p) ∙ path_refl p
