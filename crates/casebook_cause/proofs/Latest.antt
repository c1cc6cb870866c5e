-- The last line that isn't alike.
use Rattle.std.proofs.Common.{◌≡◌, ◌⊎◌, inl, inr, ◌<◌, ℕ, nat_lt, Bool, true, false, ◌||◌}
use Rattle.std.proofs.Common.{Option, Some, None, IfSome, refl, arith}
use Rattle.std.specs.Bool.{if◌then◌else◌}
use Rattle.std.proofs.lemmas.Bool.{ltb-true, ltb-false}
use Rattle.casebook_cause.specs.inner.Latest.{IsAtMost, IsLatest, later}

either : (a b : Bool) → (a || b) ≡ true → (a ≡ true) ⊎ (b ≡ true)
either true b e = inl refl
either false b e = inr e

module _ (Alike : ℕ → Type 0) (n : ℕ) where
  -- if all lines are alike
  pub latest_none : (among : ℕ → Bool) → ((k : ℕ) → k < n → among k ≡ true → Alike k) → IsLatest Alike n among None
  latest_none among alike = record { sound = tt; complete = λ k less is. inl (alike k less is) }

  -- of fewer lines
  pub latest_of_fewer : (among fewer : ℕ → Bool) (found : Option ℕ) → ((k : ℕ) → fewer k ≡ true → among k ≡ true)
      → IsLatest Alike n among found → IsLatest Alike n fewer found
  latest_of_fewer among fewer found are latest = record {
    sound = latest.sound;
    complete = λ k less is. latest.complete k less (are k is);
  }

  -- of the lines of either
  pub latest_of_both : (some more : ℕ → Bool) (one two : Option ℕ) → IsLatest Alike n some one
      → IsLatest Alike n more two → IsLatest Alike n (λ k. some k || more k) (later one two)
  latest_of_both some more one two first second = record {
    sound = sound one two first.sound second.sound;
    complete = λ k less is. by_part k less (either (some k) (more k) is);
  }
    where
      sound : (a b : Option ℕ) → IfSome a (λ m. (m < n) × ¬ (Alike m)) → IfSome b (λ m. (m < n) × ¬ (Alike m))
          → IfSome (later a b) (λ m. (m < n) × ¬ (Alike m))
      sound None b h g = g
      sound (Some m) None h g = h
      sound (Some m) (Some k) h g = by_test (nat_lt m k)
        where
          by_test : (c : Bool) → IfSome (if c then Some k else Some m) (λ j. (j < n) × ¬ (Alike j))
          by_test true = g
          by_test false = h

      over_one : (k : ℕ) (a b : Option ℕ) → IsAtMost k a → IsAtMost k (later a b)
      over_one k None b h = absurd h
      over_one k (Some m) None h = h
      over_one k (Some m) (Some j) h = by_test (nat_lt m j) refl
        where
          by_test : (c : Bool) → nat_lt m j ≡ c → IsAtMost k (if c then Some j else Some m)
          by_test true e = let less = ltb-true m j e in omega (arith, less, h)
          by_test false e = h

      over_two : (k : ℕ) (a b : Option ℕ) → IsAtMost k b → IsAtMost k (later a b)
      over_two k None b h = h
      over_two k (Some m) None h = absurd h
      over_two k (Some m) (Some j) h = by_test (nat_lt m j) refl
        where
          by_test : (c : Bool) → nat_lt m j ≡ c → IsAtMost k (if c then Some j else Some m)
          by_test true e = h
          by_test false e = let over = ltb-false m j e in omega (arith, over, h)

      by_part : (k : ℕ) → k < n → (some k ≡ true) ⊎ (more k ≡ true) → Alike k ⊎ IsAtMost k (later one two)
      by_part k less (inl e) = raised (first.complete k less e)
        where
          raised : Alike k ⊎ IsAtMost k one → Alike k ⊎ IsAtMost k (later one two)
          raised (inl a) = inl a
          raised (inr h) = inr (over_one k one two h)
      by_part k less (inr e) = raised (second.complete k less e)
        where
          raised : Alike k ⊎ IsAtMost k two → Alike k ⊎ IsAtMost k (later one two)
          raised (inl a) = inl a
          raised (inr h) = inr (over_two k one two h)
