-- Small laws of tests, options, texts and paths.
use Rattle.std.proofs.Common.{◌≡◌, Bool, true, false, not, ◌&&◌, ◌||◌, refl, sym, ◌∙◌, ◌⊎◌, inl}
use Rattle.std.proofs.Common.{inr, ℕ, List, ap}
use Rattle.std.proofs.Common.{Some, None}
use Rattle.std.specs.Option.{is_some, unwrap_or}
use Rattle.std.specs.Ordering.{is_eq}
use Rattle.std.specs.declared.cmp.Ordering.{Ordering}
use Rattle.std.specs.declared.cmp.Ordering.TheVariants.{Less, Equal, Greater}
use Rattle.std.proofs.lemmas.Bool.{false≢true}
use Rattle.retro_path.specs.Order.{path_eq, path_exact, path_ties, path_equiv, text_eq, text_exact}
use Rattle.retro_path.specs.Order.{text_ties}
use Rattle.retro_path.specs.Path.{PathValue}

pub tied : (r : Ordering) → is_eq r ≡ true → r ≡ Equal
tied Less e = absurd (false≢true e)
tied Equal e = refl
tied Greater e = absurd (false≢true e)

pub same_path : (p q : PathValue) → path_eq p q ≡ true → p ≡ q
same_path p q e = path_exact p q (tied _ (sym (path_ties p q) ∙ e))

pub path_refl : (p : PathValue) → path_eq p p ≡ true
path_refl p = path_equiv.refl p

pub decided : (b : Bool) → (b ≡ true) ⊎ (b ≡ false)
decided true = inl refl
decided false = inr refl

pub same_text : (x y : List ℕ) → text_eq x y ≡ true → x ≡ y
same_text x y e = text_exact x y (tied _ (sym (text_ties x y) ∙ e))

pub some_same : {A : Type 0} (x y : A) → Some x ≡ Some y → x ≡ y
some_same x y e = ap (λ o. unwrap_or o x) e

pub none_some : {A : Type 0} (x : A) → None ≡ Some x → ⊥
none_some x e = false≢true (ap is_some e)

pub first_and : (a b : Bool) → (a && b) ≡ true → a ≡ true
first_and true b e = refl
first_and false b e = absurd (false≢true e)

pub last_and : (a b : Bool) → (a && b) ≡ true → b ≡ true
last_and true b e = e
last_and false b e = absurd (false≢true e)

pub both_and : (a b : Bool) → a ≡ true → b ≡ true → (a && b) ≡ true
both_and true b e h = h
both_and false b e h = absurd (false≢true e)

pub either_or : (a b : Bool) → (a || b) ≡ true → (a ≡ true) ⊎ (b ≡ true)
either_or true b e = inl refl
either_or false b e = inr e

pub first_or : (a b : Bool) → a ≡ true → (a || b) ≡ true
first_or true b e = refl
first_or false b e = absurd (false≢true e)

pub last_or : (a b : Bool) → b ≡ true → (a || b) ≡ true
last_or true b e = refl
last_or false b e = e

pub not_true : (b : Bool) → not b ≡ true → b ≡ false
not_true true e = absurd (false≢true e)
not_true false e = refl
