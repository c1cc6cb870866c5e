-- Lines, by the first newline.
use Rattle.std.proofs.Common.{◌≡◌, ℕ, zero, suc, ◌+◌, ◌-◌, ◌<◌, ◌≤◌, Bool, true, false, not, cond, nat_eq}
use Rattle.std.proofs.Common.{List, [], ◌∷◌, length, take, drop, get_or, Some, None, refl, sym, ap, ◌∙◌, arith}
use Rattle.std.specs.List.{position, position_or_len}
use Rattle.std.proofs.lemmas.Bool.{ltb-false}
use Rattle.std.proofs.lemmas.List.{take_rest}
use Rattle.std.proofs.lemmas.List.Quantifiers.{position-Some}
use Rattle.casebook_words.specs.Lines.{line_of, lines_of, with_byte}

pub no_lines : lines_of [] ≡ []
unfolding lines_of
no_lines = refl

pub empty_text : (text : List ℕ) → length text ≡ 0 → lines_of text ≡ []
empty_text [] e = no_lines
empty_text (b ∷ text) e = absurd (omega (arith, e))

-- ---- a first line with a newline

ended_at : (text : List ℕ) (k : ℕ) → k < length text → nat_eq (get_or text k 0) 10 ≡ true
    → ((j : ℕ) → j < k → nat_eq (get_or text j 0) 10 ≡ false)
    → lines_of text ≡ line_of (take k text) true ∷ lines_of (drop (k + 1) text)
unfolding lines_of
ended_at [] k lt here before = absurd (omega (arith, lt))
ended_at (b ∷ text) zero lt here before = let newline : nat_eq b 10 ≡ true = here in rw newline refl
ended_at (b ∷ text) (suc k) lt here before =
    let other : nat_eq b 10 ≡ false = before 0 (omega arith) in
    let place : suc k + 1 ≡ suc (k + 1) = omega arith in
    rw (other, place)
    (ap (with_byte b) (ended_at text k (omega (arith, lt)) here (λ j less. before (suc j) (omega (arith, less)))))

-- as the code slices the text
pub first_ended : (text : List ℕ) (k : ℕ) → Some k ≡ position (λ b. nat_eq b 10) text
    → lines_of text ≡ line_of (take k text) true ∷ lines_of (take (length text - (k + 1)) (drop (k + 1) text))
first_ended text k found =
    let at = position-Some (λ b. nat_eq b 10) text k 0 (sym found) in
    ended_at text k at.0 at.1 at.2
    ∙ ap (λ rest. line_of (take k text) true ∷ lines_of rest) (sym (take_rest text (k + 1)))

-- ---- a text without a newline

not_first : (t : Bool) (n m : ℕ) → suc n ≤ cond (not t) (1 + m) 0 → (t ≡ false) × (n ≤ m)
not_first true n m long = absurd (omega (arith, long))
not_first false n m long = (refl, omega (arith, long))

all_kept : (b : ℕ) (text : List ℕ) → length (b ∷ text) ≤ position_or_len (λ x. nat_eq x 10) (b ∷ text)
    → lines_of (b ∷ text) ≡ line_of (b ∷ text) false ∷ []
unfolding lines_of
all_kept b [] long =
    let both = not_first (nat_eq b 10) 0 0 long in
    rw both.0 refl
all_kept b (c ∷ text) long =
    let both = not_first (nat_eq b 10) (length (c ∷ text)) (position_or_len (λ x. nat_eq x 10) (c ∷ text)) long in
    rw both.0 (ap (with_byte b) (all_kept c text both.1))

no_place : (t : Bool) (n : ℕ) → None ≡ cond t (Some n) None → t ≡ false
no_place true n e = absurd (cc)
no_place false n e = refl

pub first_open : (text : List ℕ) → 0 < length text → None ≡ position (λ b. nat_eq b 10) text
    → lines_of text ≡ line_of text false ∷ lines_of []
first_open [] some none = absurd (omega (arith, some))
first_open (b ∷ text) some none =
    let test = no_place _ _ none in
    all_kept b text (ltb-false (position_or_len (λ x. nat_eq x 10) (b ∷ text)) (length (b ∷ text)) test)
    ∙ ap (λ rest. line_of (b ∷ text) false ∷ rest) (sym no_lines)
