-- Conditions in fields, from those in a sample of them.
use Rattle.std.proofs.Common.{◌≡◌, ◌⊎◌, inl, inr, ℕ, suc, ◌-◌, ◌||◌, arith, Bool, true, false, ◌&&◌, List, [], ◌∷◌, length, take}
use Rattle.std.proofs.Common.{Option, Some, None, codes, refl, ap, sym, ◌∙◌}
use Rattle.std.proofs.lemmas.Bool.{false≢true}
use Rattle.std.specs.Prelude.{option_map, if◌then◌else◌}
use Rattle.std.specs.List.{ends_with}
use Rattle.std.specs.Option.{is_some}
use Rattle.retro_path.specs.Order.{text_eq}
use Rattle.retro_text.specs.Condition.{ConditionValue, known, unary, binary, condition_in, before_bracket}
use Rattle.casebook_usage.specs.Forms.{is_condition}
use Rattle.casebook_usage.specs.Shape.{is_plain}
use Rattle.casebook_usage.proofs.Alike.{Alike}

-- whether an operator is one doesn't depend on its operands
unary_tests : (n z e f d : Bool) (v w x y t : ConditionValue)
    → is_some (if n then Some v else if z then Some w else if e then Some x else if f then Some y else if d then Some t else None)
    ≡ (n || (z || (e || (f || d))))
unary_tests true z e f d v w x y t = refl
unary_tests false true e f d v w x y t = refl
unary_tests false false true f d v w x y t = refl
unary_tests false false false true d v w x y t = refl
unary_tests false false false false true v w x y t = refl
unary_tests false false false false false v w x y t = refl

same_unary : (operator t u : List ℕ) → is_some (unary operator t) ≡ is_some (unary operator u)
unfolding unary
same_unary operator t u =
    unary_tests (text_eq operator (codes "-n")) (text_eq operator (codes "-z")) (text_eq operator (codes "-e"))
    (text_eq operator (codes "-f")) (text_eq operator (codes "-d")) _ _ _ _ _
    ∙ sym (unary_tests (text_eq operator (codes "-n")) (text_eq operator (codes "-z")) (text_eq operator (codes "-e"))
    (text_eq operator (codes "-f")) (text_eq operator (codes "-d")) _ _ _ _ _)

binary_tests : (equal apart v w : Bool)
    → is_some (option_map known (if equal then Some v else if apart then Some w else None)) ≡ (equal || apart)
binary_tests true apart v w = refl
binary_tests false true v w = refl
binary_tests false false v w = refl

same_binary : (operator a b c d : List ℕ)
    → is_some (option_map known (binary a operator b)) ≡ is_some (option_map known (binary c operator d))
unfolding binary
same_binary operator a b c d =
    binary_tests (text_eq operator (codes "=")) (text_eq operator (codes "!=")) _ _
    ∙ sym (binary_tests (text_eq operator (codes "=")) (text_eq operator (codes "!=")) _ _)

no_unary : (operator t : List ℕ) → operator ≡ codes "x" → is_some (unary operator t) ≡ false
unfolding unary
no_unary operator t e = rw e refl

no_binary : (operator a b : List ℕ) → operator ≡ codes "x"
    → is_some (option_map known (binary a operator b)) ≡ false
unfolding binary
no_binary operator a b e = rw e refl

pub alike_condition : (xs ys : List (List ℕ)) → Alike xs ys → is_some (condition_in xs) ≡ true
    → is_some (condition_in ys) ≡ true
unfolding condition_in
alike_condition [] [] alike holds = refl
alike_condition [] (y ∷ ys) alike holds = absurd alike
alike_condition (x ∷ xs) [] alike holds = absurd alike
alike_condition (x ∷ []) (y ∷ []) alike holds = refl
alike_condition (x ∷ []) (y ∷ z ∷ ys) alike holds = absurd alike.1
alike_condition (x ∷ t ∷ xs) (y ∷ []) alike holds = absurd alike.1
alike_condition (x ∷ t ∷ []) (y ∷ u ∷ []) (inl e, alike) holds =
    ap (λ o. is_some (unary o u)) (sym e) ∙ same_unary x u t ∙ holds
alike_condition (x ∷ t ∷ []) (y ∷ u ∷ []) (inr (e, plain), alike) holds =
    absurd (false≢true (sym (no_unary x t e) ∙ holds))
alike_condition (x ∷ t ∷ []) (y ∷ u ∷ z ∷ ys) alike holds = absurd alike.1.1
alike_condition (x ∷ t ∷ z ∷ xs) (y ∷ u ∷ []) alike holds = absurd alike.1.1
alike_condition (a ∷ o ∷ b ∷ []) (c ∷ p ∷ d ∷ []) (first, (inl e, alike)) holds =
    ap (λ q. is_some (option_map known (binary c q d))) (sym e) ∙ same_binary o c d a b ∙ holds
alike_condition (a ∷ o ∷ b ∷ []) (c ∷ p ∷ d ∷ []) (first, (inr (e, plain), alike)) holds =
    absurd (false≢true (sym (no_binary o a b e) ∙ holds))
alike_condition (a ∷ o ∷ b ∷ []) (c ∷ p ∷ d ∷ z ∷ ys) alike holds = absurd alike.1.1.1
alike_condition (a ∷ o ∷ b ∷ z ∷ xs) (c ∷ p ∷ d ∷ []) alike holds = absurd alike.1.1.1
alike_condition (a ∷ o ∷ b ∷ z ∷ xs) (c ∷ p ∷ d ∷ w ∷ ys) alike holds = absurd (false≢true holds)

-- ---- the operands before a bracket

-- field by field
by_bracket : Bool → Option (List (List ℕ))
by_bracket is_bracket = if is_bracket then Some [] else None

last_bracket : (is_bracket : Bool) → (if is_bracket && true then Some [] else None) ≡ by_bracket is_bracket
unfolding by_bracket
last_bracket true = refl
last_bracket false = refl

before_one : (x : List ℕ) → before_bracket (x ∷ []) ≡ by_bracket (text_eq (codes "]") x)
unfolding before_bracket
before_one x = last_bracket (text_eq (codes "]") x)

before_more : (x y : List ℕ) (more : List (List ℕ))
    → before_bracket (x ∷ y ∷ more) ≡ option_map (λ before. x ∷ before) (before_bracket (y ∷ more))
unfolding before_bracket
before_more x y more =
    let e : length (x ∷ y ∷ more) - 1 ≡ suc (length (y ∷ more) - 1) = omega arith in
    rw e
    (by_test (ends_with text_eq (y ∷ more) (codes "]" ∷ [])) (take (length (y ∷ more) - 1) (y ∷ more)))
  where
    by_test : (ends : Bool) (front : List (List ℕ))
        → (if ends then Some (x ∷ front) else None) ≡ option_map (λ before. x ∷ before) (if ends then Some front else None)
    by_test true front = refl
    by_test false front = refl

abbrev pub BothBefore : Option (List (List ℕ)) → Option (List (List ℕ)) → Type 0
BothBefore None found = Unit {0}
BothBefore (Some xs) None = ⊥
BothBefore (Some xs) (Some ys) = Alike xs ys

both_with : (x y : List ℕ) (xs ys : Option (List (List ℕ))) → (x ≡ y) ⊎ ((x ≡ codes "x") × (is_plain y ≡ true))
    → BothBefore xs ys → BothBefore (option_map (λ before. x ∷ before) xs) (option_map (λ before. y ∷ before) ys)
both_with x y None ys same both = tt
both_with x y (Some xs) None same both = absurd both
both_with x y (Some xs) (Some ys) same both = (same, both)

both_brackets : (x y : List ℕ) → (x ≡ y) ⊎ ((x ≡ codes "x") × (is_plain y ≡ true))
    → BothBefore (by_bracket (text_eq (codes "]") x)) (by_bracket (text_eq (codes "]") y))
unfolding by_bracket
both_brackets x y (inl e) = rw e (by_test (text_eq (codes "]") y))
  where
    by_test : (is_bracket : Bool) → BothBefore (if is_bracket then Some [] else None) (if is_bracket then Some [] else None)
    by_test true = tt
    by_test false = tt
both_brackets x y (inr (e, plain)) = rw e tt

no_fields_before : BothBefore (before_bracket []) (before_bracket [])
unfolding before_bracket
no_fields_before = tt

both_before : (xs ys : List (List ℕ)) → Alike xs ys → BothBefore (before_bracket xs) (before_bracket ys)
both_before [] [] alike = no_fields_before
both_before [] (y ∷ ys) alike = absurd alike
both_before (x ∷ xs) [] alike = absurd alike
both_before (x ∷ []) (y ∷ []) (same, alike) = rw (before_one x, before_one y) (both_brackets x y same)
both_before (x ∷ []) (y ∷ z ∷ ys) (same, alike) = absurd alike
both_before (x ∷ z ∷ xs) (y ∷ []) (same, alike) = absurd alike
both_before (x ∷ z ∷ xs) (y ∷ w ∷ ys) (same, alike) =
    rw (before_more x z xs, before_more y w ys)
    (both_with x y (before_bracket (z ∷ xs)) (before_bracket (w ∷ ys)) same (both_before (z ∷ xs) (w ∷ ys) alike))

both_conditions : (xs ys : Option (List (List ℕ))) → BothBefore xs ys → is_condition xs ≡ true → is_condition ys ≡ true
both_conditions None ys both holds = absurd (false≢true holds)
both_conditions (Some xs) None both holds = absurd both
both_conditions (Some xs) (Some ys) both holds = alike_condition xs ys both holds

pub alike_bracket : (xs ys : List (List ℕ)) → Alike xs ys → is_condition (before_bracket xs) ≡ true
    → is_condition (before_bracket ys) ≡ true
alike_bracket xs ys alike = both_conditions (before_bracket xs) (before_bracket ys) (both_before xs ys alike)
