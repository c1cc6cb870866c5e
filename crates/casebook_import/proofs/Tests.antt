-- Small laws of tests.
use Rattle.std.proofs.Common.{◌≡◌, Bool, true, false, ◌⊎◌, inl, inr, List, ℕ, refl}
use Rattle.std.specs.Prelude.{◌&&◌, if◌then◌else◌}
use Rattle.std.specs.Str.{IsUtf8, is_utf8}
use Rattle.std.proofs.lemmas.Str.{IsUtf8-from_is_utf8}

pub decided : (b : Bool) → (b ≡ true) ⊎ (b ≡ false)
decided true = inl refl
decided false = inr refl

pub not_utf8 : (text : List ℕ) → ¬ (IsUtf8 text) → is_utf8 text ≡ false
not_utf8 text h = elim (decided (is_utf8 text)) [
  | inl e ↦ absurd (h (IsUtf8-from_is_utf8 text e))
  | inr e ↦ e
]

-- ---- what is chosen by two tests

pub both : (a b : Bool) (x y : List ℕ) → a ≡ true → b ≡ true → (if a && b then x else y) ≡ x
both true true x y p q = refl
both true false x y p q = cc
both false b x y p q = cc

pub first_fails : (a b : Bool) (x y : List ℕ) → a ≡ false → (if a && b then x else y) ≡ y
first_fails true b x y p = cc
first_fails false b x y p = refl

pub second_fails : (a b : Bool) (x y : List ℕ) → b ≡ false → (if a && b then x else y) ≡ y
second_fails true true x y p = cc
second_fails true false x y p = refl
second_fails false b x y p = refl
