-- Lists separated by a test, and sets of the numbers of cancelled lines.
use Rattle.std.proofs.Common.{◌≡◌, ◌∙◌, inl, inr, ℕ, ◌==◌, Bool, true, false, cond, not, ◌&&◌, ◌||◌, List, [], ◌∷◌}
use Rattle.std.proofs.Common.{◌++◌, ◌+◌, ◌<◌, append_assoc, drop, get_or, length, map, refl, sym, ap}
use Rattle.std.proofs.lemmas.List.{drop_more, map-append}
use Rattle.std.specs.List.{filter}
use Rattle.std.specs.BTreeMap.{is_at}
use Rattle.std.specs.Cmp.{unsigned_ties}
use Rattle.std.specs.Ordering.{nat_cmp}
use Rattle.retro_keep.specs.Recording.{RecordingValue}
use Rattle.retro_redo.specs.Repair.{compensations_in}
use Rattle.retro_redo.specs.Moments.{compensation_view}
use Rattle.retro_redo.specs.declared.compensation.Compensation.{Compensation}
use Rattle.retro_redo.specs.declared.repair.Repair.{Repair}
use Rattle.retro_redo.specs.declared.verdict.SettledLine.{SettledLine}
use Rattle.casebook_cause.specs.Compensations.{AreParts, is_cancelled, is_leak}
use Rattle.casebook_cause.specs.Compensations.{leaks, tellings}
use Rattle.casebook_cause.specs.inner.Numbers.{has_number}

-- ---- parts of a list

filter_parts : {A : Type 0} (test : A → Bool) (all : List A)
    → AreParts (filter test all) (filter (λ x. not (test x)) all) all
filter_parts test [] = (refl, refl)
filter_parts {A} test (x ∷ all) = by_test (test x) (filter_parts test all)
  where
    by_test : (b : Bool) → AreParts (filter test all) (filter (λ y. not (test y)) all) all
        → AreParts (cond b (x ∷ filter test all) (filter test all))
        (cond (not b) (x ∷ filter (λ y. not (test y)) all) (filter (λ y. not (test y)) all)) (x ∷ all)
    by_test true rest = inl (filter test all, refl, rest)
    by_test false rest = inr (filter (λ y. not (test y)) all, refl, rest)

pub both_parts : (r : RecordingValue) (repair : Repair)
    → AreParts (leaks r repair) (tellings r repair) (compensations_in r repair)
both_parts r repair = filter_parts (is_leak repair) (compensations_in r repair)

-- an item that passes the test is appended
pub taken : {A : Type 0} (test : A → Bool) (done now rest later all : List A) (x : A)
    → done ++ filter test rest ≡ all → rest ≡ x ∷ later → test x ≡ true → now ≡ done ++ x ∷ []
    → now ++ filter test later ≡ all
taken test done now rest later all x left is passes pushed =
    ap (λ xs. xs ++ filter test later) pushed ∙ append_assoc done (x ∷ []) (filter test later)
    ∙ sym (ap (λ xs. done ++ filter test xs) is
    ∙ ap (λ b. done ++ cond b (x ∷ filter test later) (filter test later)) passes)
    ∙ left

-- an item that doesn't is passed over
pub passed : {A : Type 0} (test : A → Bool) (done rest later all : List A) (x : A)
    → done ++ filter test rest ≡ all → rest ≡ x ∷ later → test x ≡ false → done ++ filter test later ≡ all
passed test done rest later all x left is fails =
    sym (ap (λ xs. done ++ filter test xs) is
    ∙ ap (λ b. done ++ cond b (x ∷ filter test later) (filter test later)) fails)
    ∙ left

-- the same of items that are seen as others, one after another
module _ {A B : Type 0} (f : A → B) (test : B → Bool) (done items : List A) (i : ℕ) (d : A) (all : List B)
    (lt : i < length items) (so_far : map f done ++ filter test (map f (drop i items)) ≡ all) where
  next : map f (drop i items) ≡ f (get_or items i d) ∷ map f (drop (i + 1) items)
  next = ap (map f) (drop_more items i d lt)

  pub view_taken : (new : List A) → test (f (get_or items i d)) ≡ true → new ≡ done ++ get_or items i d ∷ []
      → map f new ++ filter test (map f (drop (i + 1) items)) ≡ all
  view_taken new passes pushed =
      taken test (map f done) (map f new) (map f (drop i items)) (map f (drop (i + 1) items)) all
      (f (get_or items i d)) so_far next passes
      (ap (map f) pushed ∙ map-append f done (get_or items i d ∷ []))

  pub view_passed : (new : List A) → test (f (get_or items i d)) ≡ false → new ≡ done
      → map f new ++ filter test (map f (drop (i + 1) items)) ≡ all
  view_passed new fails same =
      ap (λ xs. map f xs ++ filter test (map f (drop (i + 1) items))) same
      ∙ passed test (map f done) (map f (drop i items)) (map f (drop (i + 1) items)) all (f (get_or items i d)) so_far next
      fails

-- ---- numbers of cancelled lines

-- a number was added to a set, or was there
pub number_added : (old new : List ℕ) (key : ℕ)
    → ((n : ℕ) → has_number n new ≡ cond (is_at (nat_cmp key) n) true (has_number n old))
    → (n : ℕ) → has_number n new ≡ (has_number n old || ((key == n) && true))
number_added old new key updates n =
    updates n ∙ ap (λ b. cond b true (has_number n old)) (sym (unsigned_ties key n))
    ∙ either (key == n) (has_number n old)
  where
    either : (a b : Bool) → cond a true b ≡ (b || (a && true))
    either true true = refl
    either true false = refl
    either false true = refl
    either false false = refl

pub none_added : (numbers : List ℕ) (key n : ℕ)
    → has_number n numbers ≡ (has_number n numbers || ((key == n) && false))
none_added numbers key n = either (key == n) (has_number n numbers)
  where
    either : (a b : Bool) → b ≡ (b || (a && false))
    either true true = refl
    either true false = refl
    either false true = refl
    either false false = refl

-- a compensation is a leak if its number is among those of the cancelled lines
pub leak_found : (d : Compensation) {b : Bool} (repair : Repair) (lines : List SettledLine) (keys : List ℕ)
    (items : List Compensation) (i : ℕ) → lines ≡ repair.lines.items
    → ((n : ℕ) → has_number n keys ≡ is_cancelled lines n) → b ≡ has_number (get_or items i d).number keys
    → is_leak repair (compensation_view (get_or items i d)) ≡ b
leak_found d repair lines keys items i same are found =
    sym (ap (λ (ls : List SettledLine). is_cancelled ls (get_or items i d).number) same)
    ∙ sym (are (get_or items i d).number) ∙ sym found
