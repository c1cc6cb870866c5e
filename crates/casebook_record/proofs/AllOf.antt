-- What is read of one item or more.
use Rattle.std.proofs.Common.{◌≡◌, ◌<◌, arith, length, List, [], ◌∷◌, Option, Some, None}
use Rattle.std.specs.Prelude.{option_and_then, option_map}
use Rattle.casebook_record.specs.Statuses.{all_of}

with_first : {B : Type 0} (first : Option B) (rest : Option (List B)) (ys : List B)
    → option_and_then (λ y. option_map (λ more. y ∷ more) rest) first ≡ Some ys → 0 < length ys
with_first None rest ys e = absurd (cc)
with_first (Some y) None ys e = absurd (cc)
with_first (Some y) (Some more) ys e =
    let same : length ys ≡ length (y ∷ more) = cc in omega (arith, same)

-- is one or more
pub all_of_some : {A B : Type 0} (read : A → Option B) (xs : List A) (ys : List B)
    → 0 < length xs → all_of read xs ≡ Some ys → 0 < length ys
all_of_some read [] ys lt e = absurd (omega (arith, lt))
all_of_some read (x ∷ xs) ys lt e = with_first (read x) (all_of read xs) ys e
