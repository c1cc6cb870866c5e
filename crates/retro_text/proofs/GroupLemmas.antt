-- The options of grouped letters, letter by letter.
use Rattle.std.proofs.Common.{◌≡◌, ◌≢◌, ℕ, true, false, List, [], ◌∷◌, ◌++◌, length, Some, None, refl}
use Rattle.retro_text.specs.Request.{KnownValue, Given, group, has_letter}

pub group_flag : (known : KnownValue) (given : List Given) (letter : ℕ) (letters : List ℕ)
    → has_letter known.flags letter ≡ true
    → group known given (letter ∷ letters) ≡ group known (given ++ (letter, None) ∷ []) letters
group_flag known given letter letters flag = rw flag refl

pub group_unknown : (known : KnownValue) (given : List Given) (letter : ℕ) (letters : List ℕ)
    → has_letter known.flags letter ≡ false → has_letter known.arguments letter ≡ false
    → group known given (letter ∷ letters) ≡ None
group_unknown known given letter letters flag argument = rw (flag, argument) refl

pub group_waits : (known : KnownValue) (given : List Given) (letter : ℕ) (letters : List ℕ)
    → has_letter known.flags letter ≡ false → has_letter known.arguments letter ≡ true → length letters ≡ 0
    → group known given (letter ∷ letters) ≡ Some (given, Some letter)
group_waits known given letter [] flag argument empty = rw (flag, argument) refl
group_waits known given letter (b ∷ letters) flag argument empty = absurd (cc)

pub group_rest : (known : KnownValue) (given : List Given) (letter : ℕ) (letters : List ℕ)
    → has_letter known.flags letter ≡ false → has_letter known.arguments letter ≡ true → length letters ≢ 0
    → group known given (letter ∷ letters) ≡ Some (given ++ (letter, Some letters) ∷ [], None)
group_rest known given letter [] flag argument filled = absurd (filled refl)
group_rest known given letter (b ∷ letters) flag argument filled = rw (flag, argument) refl

pub ruleset group_steps = (group_flag, group_unknown, group_waits, group_rest)
