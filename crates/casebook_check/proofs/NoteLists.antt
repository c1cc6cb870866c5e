-- Items of lists.
use Rattle.std.proofs.Common.{◌≡◌, ◌≢◌, ◌∙◌, ℕ, zero, suc, ◌<◌, ◌≤◌, List, [], ◌∷◌, Option, Some, None, length, drop}
use Rattle.std.proofs.Common.{ap, arith, is_some, sym}
use Rattle.std.proofs.Math.ListN.{drop_of_length-le}
use Rattle.std.proofs.lemmas.Bool.{true≢false}
use Rattle.casebook_check.specs.Difference.{first_of, item_at}

item_there : {A : Type 0} (xs : List A) (i : ℕ) → i < length xs → item_at i xs ≢ None
item_there [] i lt none = omega (arith, lt)
item_there (x ∷ xs) zero lt none = true≢false (ap is_some none)
item_there (x ∷ xs) (suc i) lt none = item_there xs i (omega (arith, lt)) none

-- of two lists the one that goes on at an index has another item there than the one that doesn't
pub longer_differs : {A : Type 0} (xs ys : List A) (i : ℕ) → i < length xs → length ys ≤ i → item_at i xs ≢ item_at i ys
longer_differs xs ys i lt le same =
    item_there xs i lt (same ∙ ap first_of (drop_of_length-le ys le))
