-- Lists without some of their items, and the lists of a settled board.
use Rattle.std.proofs.Common.{◌<◌, ◌==◌, ℕ, Bool, true, false, cond, List, [], ◌∷◌, ◌++◌}
use Rattle.std.proofs.Common.{inl, inr, refl, sym, ap, subst}
use Rattle.std.proofs.Common.{IsTrue, nat_lt, arith}
use Rattle.std.proofs.lemmas.Bool.{ltb-true, lt-ltb}
use Rattle.retro_tree.proofs.Small.{first_true, both_true, and_true}
use Rattle.retro_keep.specs.Script.{rises_from}
use Rattle.retro_pool.specs.Turns.{IsShared, IsSublist, Turn, jobs_of, taken_by}

-- ---- lists without some of their items

pub sublist_nil : (ys : List ℕ) → IsSublist [] ys
sublist_nil [] = refl
sublist_nil (y ∷ ys) = inr (sublist_nil ys)

-- one more item of both lists, and one more of the second alone
pub sublist_snoc : (xs ys : List ℕ) (z : ℕ) → IsSublist xs ys → IsSublist (xs ++ z ∷ []) (ys ++ z ∷ [])
sublist_snoc xs [] z h = inl ([], ap (λ l. l ++ z ∷ []) h, refl)
sublist_snoc xs (y ∷ ys) z (inl h) = inl (h.0 ++ z ∷ [], ap (λ l. l ++ z ∷ []) h.1, sublist_snoc h.0 ys z h.2)
sublist_snoc xs (y ∷ ys) z (inr h) = inr (sublist_snoc xs ys z h)

pub sublist_more : (xs ys : List ℕ) (z : ℕ) → IsSublist xs ys → IsSublist xs (ys ++ z ∷ [])
sublist_more xs [] z h = inr h
sublist_more xs (y ∷ ys) z (inl h) = inl (h.0, h.1, sublist_more h.0 ys z h.2)
sublist_more xs (y ∷ ys) z (inr h) = inr (sublist_more xs ys z h)

-- ---- the lists of a settled board

taken_in_order : (seat : ℕ) (turns : List Turn) → IsSublist (taken_by seat turns) (jobs_of turns)
taken_in_order seat [] = refl
taken_in_order seat (t ∷ turns) = here (t.0 == seat) (taken_in_order seat turns)
  where
    here : (b : Bool) → IsSublist (taken_by seat turns) (jobs_of turns)
        → IsSublist (cond b (t.1 ∷ taken_by seat turns) (taken_by seat turns)) (t.1 ∷ jobs_of turns)
    here true h = inl (taken_by seat turns, refl, h)
    here false h = inr h

pub lists_in_order : (seats : ℕ) (dealt : List ℕ) (list_of : ℕ → List ℕ) → IsShared seats dealt list_of
    → (seat : ℕ) → seat < seats → IsSublist (list_of seat) dealt
lists_in_order seats dealt list_of shared seat less =
    subst (λ xs. IsSublist xs dealt) (sym (shared.lists seat less))
    (subst (IsSublist (taken_by seat shared.turns)) shared.jobs (taken_in_order seat shared.turns))

-- ---- lists that rise

above : (n x : ℕ) (xs : List ℕ) → IsTrue (rises_from n (x ∷ xs)) → n < x
above n x xs h = ltb-true n x (first_true (nat_lt n x) _ h)

later : (n x : ℕ) (xs : List ℕ) → IsTrue (rises_from n (x ∷ xs)) → IsTrue (rises_from x xs)
later n x xs h = both_true (nat_lt n x) _ h

rises : (n x : ℕ) (xs : List ℕ) → n < x → IsTrue (rises_from x xs) → IsTrue (rises_from n (x ∷ xs))
rises n x xs less h = and_true _ _ (lt-ltb n x less) h

rises_lower : (n m : ℕ) (xs : List ℕ) → n < m → IsTrue (rises_from m xs) → IsTrue (rises_from n xs)
rises_lower n m [] less h = refl
rises_lower n m (x ∷ xs) less h =
    let up = above m x xs h in rises n x xs (omega (arith, less, up)) (later m x xs h)

sublist_rises : (n : ℕ) (xs ys : List ℕ) → IsSublist xs ys → IsTrue (rises_from n ys) → IsTrue (rises_from n xs)
sublist_rises n xs [] h r = subst (λ l. IsTrue (rises_from n l)) (sym h) refl
sublist_rises n xs (y ∷ ys) (inl h) r =
    subst (λ l. IsTrue (rises_from n l)) (sym h.1)
    (rises n y h.0 (above n y ys r) (sublist_rises y h.0 ys h.2 (later n y ys r)))
sublist_rises n xs (y ∷ ys) (inr h) r =
    rises_lower n y xs (above n y ys r) (sublist_rises y xs ys h (later n y ys r))

pub lists_rise : (from seats : ℕ) (dealt : List ℕ) (list_of : ℕ → List ℕ) → IsTrue (rises_from from dealt)
    → IsShared seats dealt list_of → (seat : ℕ) → seat < seats → IsTrue (rises_from from (list_of seat))
lists_rise from seats dealt list_of rising shared seat less =
    sublist_rises from (list_of seat) dealt (lists_in_order seats dealt list_of shared seat less) rising
