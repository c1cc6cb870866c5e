-- What the readers of numbers answer.
use Rattle.std.proofs.Common.{◌≡◌, ℕ, ◌^◌, ◌≤◌, Bool, true, false, nat_lt, List, Some, None}
use Rattle.std.proofs.Common.{Result, refl, arith}
use Rattle.std.proofs.Common.{if◌then◌else◌, option_and_then, pos, unsigned_abs, OkIff}
use Rattle.std.specs.Int.{FitsUnsignedBits}
use Rattle.std.specs.Result.{result_ok}
use Rattle.std.proofs.lemmas.Bool.{le-ltb, ltb-false}
use Rattle.std.proofs.lemmas.Bool.Decides.{Decides-ltb}
use Rattle.std.specs.Str.Parse.{digits_value, ParsesUnsigned}
use Rattle.casebook_rows.specs.Reading.{below, is_numeral, unsigned_of}
use Rattle.casebook_rows.proofs.Conditions.{ok_if}
use Rattle.casebook_rows.proofs.Numerals.{is_numeral-decides, numeral_has_no_plus}

-- what parses digits without a sign answers the number that they are
pub parsed : {E : Type 0} (base : ℕ) (ds : List ℕ) (r : Result ℕ E) → base ≤ 10
    → is_numeral base ds ≡ true → ParsesUnsigned 64 base ds r → result_ok r ≡ unsigned_of base 64 ds
unfolding unsigned_of
parsed base ds r small numeral parses =
    let digits = (is_numeral-decides base ds).0 numeral in
    let plain = rw (numeral_has_no_plus base ds small digits) at parses in
    let fits = Decides-ltb (digits_value base ds) (2 ^ 64) in
    rw numeral
    (ok_if r _ (digits_value base ds) (nat_lt (digits_value base ds) (2 ^ 64)) plain
    (λ t. (digits, fits.0 t), λ p. fits.1 p.1))

pub not_numeral : (base bits : ℕ) (ds : List ℕ) → is_numeral base ds ≡ false
    → unsigned_of base bits ds ≡ None
unfolding unsigned_of
not_numeral base bits ds h = rw h refl

-- a number of 32 bits is one of 64 bits that is below a limit
pub narrower : (base : ℕ) (ds : List ℕ)
    → unsigned_of base 32 ds ≡ option_and_then (below (2 ^ 32)) (unsigned_of base 64 ds)
unfolding unsigned_of
narrower base ds =
    by (is_numeral base ds) (nat_lt (digits_value base ds) (2 ^ 64)) (digits_value base ds) refl
  where
    by : (t u : Bool) (n : ℕ) → nat_lt n (2 ^ 64) ≡ u
        → (if t then below (2 ^ 32) n else None)
        ≡ option_and_then (below (2 ^ 32)) (if t then (if u then Some n else None) else None)
    by true true n h = refl
    by true false n h = rw (le-ltb n (2 ^ 32) (omega (arith, ltb-false n (2 ^ 64) h))) refl
    by false u n h = refl

-- what turns a number into one of 32 bits answers it, if it is below the limit
pub narrowed : {E : Type 0} (n : ℕ) (r : Result ℕ E)
    → OkIff r (FitsUnsignedBits 32 (pos n)) (unsigned_abs (pos n))
    → result_ok r ≡ below (2 ^ 32) n
narrowed n r h = ok_if r _ n (nat_lt n (2 ^ 32)) h (Decides-ltb n (2 ^ 32))
