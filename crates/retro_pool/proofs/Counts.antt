-- Lists of turns.
use Rattle.std.proofs.Common.{◌≡◌, ◌≢◌, ℕ, ◌<◌, ◌≤◌, ◌==◌, cond, true, false, List, [], ◌∷◌, ◌++◌}
use Rattle.std.proofs.Common.{length, refl, ap, arith, eq-eqb}
use Rattle.std.proofs.lemmas.Bool.{ne_eqb}
use Rattle.std.proofs.lemmas.List.{map-append}
use Rattle.std.specs.List.{AllByRecursion}
use Rattle.retro_pool.specs.Turns.{Turn, jobs_of, taken_by}

module _ {A : Type 0} where
  pub all_map : (P Q : A → Type 0) (xs : List A) → ((x : A) → P x → Q x) → AllByRecursion P xs → AllByRecursion Q xs
  all_map P Q [] f h = tt
  all_map P Q (x ∷ xs) f h = (f x h.0, all_map P Q xs f h.1)

  pub all_snoc : (P : A → Type 0) (xs : List A) (y : A) → AllByRecursion P xs → P y → AllByRecursion P (xs ++ y ∷ [])
  all_snoc P [] y h k = (k, tt)
  all_snoc P (x ∷ xs) y h k = (h.0, all_snoc P xs y h.1 k)

  pub all_last : (P : A → Type 0) (xs : List A) (y : A) → AllByRecursion P (xs ++ y ∷ []) → P y
  all_last P [] y h = h.0
  all_last P (x ∷ xs) y h = all_last P xs y h.1

pub jobs_of_snoc : (turns : List Turn) (t : Turn) → jobs_of (turns ++ t ∷ []) ≡ jobs_of turns ++ t.1 ∷ []
jobs_of_snoc turns t = map-append (λ (u : Turn). u.1) turns (t ∷ [])

pub taken_by_same : (seat : ℕ) (turns : List Turn) (x : ℕ)
    → taken_by seat (turns ++ (seat, x) ∷ []) ≡ taken_by seat turns ++ x ∷ []
taken_by_same seat [] x = rw (eq-eqb seat seat refl) refl
taken_by_same seat (t ∷ ts) x =
    elim (t.0 == seat) as (λ b. cond b (t.1 ∷ taken_by seat (ts ++ (seat, x) ∷ []))
    (taken_by seat (ts ++ (seat, x) ∷ [])) ≡ cond b (t.1 ∷ taken_by seat ts) (taken_by seat ts) ++ x ∷ [])
    [ true ↦ ap (λ l. t.1 ∷ l) (taken_by_same seat ts x) | false ↦ taken_by_same seat ts x ]

pub taken_by_other : (seat : ℕ) (turns : List Turn) (s x : ℕ) → s ≢ seat
    → taken_by seat (turns ++ (s, x) ∷ []) ≡ taken_by seat turns
taken_by_other seat [] s x n = rw (ne_eqb s seat n) refl
taken_by_other seat (t ∷ ts) s x n =
    elim (t.0 == seat) as (λ b. cond b (t.1 ∷ taken_by seat (ts ++ (s, x) ∷ []))
    (taken_by seat (ts ++ (s, x) ∷ [])) ≡ cond b (t.1 ∷ taken_by seat ts) (taken_by seat ts))
    [ true ↦ ap (λ l. t.1 ∷ l) (taken_by_other seat ts s x n) | false ↦ taken_by_other seat ts s x n ]

pub taken_by_short : (seat : ℕ) (turns : List Turn) → length (taken_by seat turns) ≤ length turns
taken_by_short seat [] = omega arith
taken_by_short seat (t ∷ ts) = let h = taken_by_short seat ts in
    elim (t.0 == seat) as (λ b. length (cond b (t.1 ∷ taken_by seat ts) (taken_by seat ts)) ≤ length
    (t ∷ ts)) [ true ↦ omega arith | false ↦ omega arith ]

pub taken_by_none : (seat : ℕ) (turns : List Turn) → AllByRecursion (λ t. t.0 < seat) turns → taken_by seat turns ≡ []
taken_by_none seat [] h = refl
taken_by_none seat (t ∷ ts) h = rw (ne_eqb t.0 seat (λ e. absurd (omega (arith, h.0)))) (taken_by_none seat ts h.1)

pub taken_by_alone : (turns : List Turn) → AllByRecursion (λ t. t.0 < 1) turns → taken_by 0 turns ≡ jobs_of turns
taken_by_alone [] h = refl
taken_by_alone (t ∷ ts) h = rw (eq-eqb t.0 0 (omega (arith, h.0))) (ap (λ l. t.1 ∷ l) (taken_by_alone ts h.1))
