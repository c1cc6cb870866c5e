-- Lists of line numbers that rise.
use Rattle.std.specs.Prelude.{ℕ, Bool, true, false, List, [], ◌∷◌, ◌++◌, Option, Some, None, nat_lt, min, filter}
use Rattle.std.specs.Prelude.{if◌then◌else◌}
use Rattle.std.specs.List.{find, list_all}
use Rattle.retro_keep.specs.Script.{rises_from}

-- each number is above the one before it
abbrev pub rise : List ℕ → Bool
rise [] = true
rise (n ∷ numbers) = rises_from n numbers

-- whether all numbers of a list are below another
abbrev pub are_below : ℕ → List ℕ → Bool
are_below n numbers = list_all (λ m. nat_lt m n) numbers

-- a list with a number appended, if all others are below it
abbrev pub with_number : ℕ → List ℕ → List ℕ
with_number n numbers = if are_below n numbers then numbers ++ n ∷ [] else numbers

-- a list with a number appended, if there is something to note and all others are below it
abbrev pub noted : Bool → ℕ → List ℕ → List ℕ
noted true n numbers = with_number n numbers
noted false n numbers = numbers

-- the first number above another
abbrev pub first_above : ℕ → List ℕ → Option ℕ
first_above after numbers = find (λ n. nat_lt after n) numbers

-- the lesser of two numbers, each of which may be missing
abbrev pub earliest : Option ℕ → Option ℕ → Option ℕ
earliest None n = n
earliest (Some m) None = Some m
earliest (Some m) (Some n) = Some (min m n)

-- the numbers of two rising lists, in rising order, each once
unfoldable pub union : List ℕ → List ℕ → List ℕ
union [] others = others
union (n ∷ numbers) others =
    filter (λ m. nat_lt m n) others ++ n ∷ union numbers (filter (λ m. nat_lt n m) others)
