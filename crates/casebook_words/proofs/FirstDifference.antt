-- The first line in which two texts differ.
use Rattle.std.proofs.Common.{◌≡◌, ◌≢◌, ℕ, zero, suc, ◌+◌, ◌-◌, Bool, true, false, cond, ◌||◌, List, [], ◌∷◌}
use Rattle.std.proofs.Common.{take, drop, Option, Some, None, refl, sym, ap, ap₂, ◌∙◌, arith, subst}
use Rattle.std.specs.Prelude.{MatchOption, is_some, option_map}
use denote.Ref.{Bor}
use Rattle.std.specs.List.{slice_get}
use Rattle.std.specs.Cmp.Lexicographic.{bytes_decides}
use Rattle.std.proofs.lemmas.Bool.{true≢false}
use Rattle.retro_tree.specs.Order.{text_eq}
use Rattle.casebook_words.specs.Lines.{texts_in}
use Rattle.casebook_words.specs.Difference.{Difference, IsFirst, first_difference, if_any, same_lines}
use Rattle.casebook_words.specs.inner.Fronts.{IsRest}

-- ---- the lines at the fronts that are the same

one_more : (x y : List ℕ) (xs ys : List (List ℕ)) → text_eq x y ≡ true
    → same_lines (x ∷ xs) (y ∷ ys) ≡ suc (same_lines xs ys)
one_more x y xs ys e =
    let counted : 1 + same_lines xs ys ≡ suc (same_lines xs ys) = omega arith in
    ap (λ t. cond t (1 + same_lines xs ys) 0) e ∙ counted

none_more : (x y : List ℕ) (xs ys : List (List ℕ)) → text_eq x y ≡ false → same_lines (x ∷ xs) (y ∷ ys) ≡ 0
none_more x y xs ys e = ap (λ t. cond t (1 + same_lines xs ys) 0) e

fronts_same : (xs ys : List (List ℕ)) → take (same_lines xs ys) xs ≡ take (same_lines xs ys) ys
fronts_same [] ys = refl
fronts_same (x ∷ xs) [] = refl
fronts_same (x ∷ xs) (y ∷ ys) = go (text_eq x y) refl (fronts_same xs ys)
  where
    go : (t : Bool) → text_eq x y ≡ t → take (same_lines xs ys) xs ≡ take (same_lines xs ys) ys
        → take (same_lines (x ∷ xs) (y ∷ ys)) (x ∷ xs) ≡ take (same_lines (x ∷ xs) (y ∷ ys)) (y ∷ ys)
    go true e so_far =
        let n = one_more x y xs ys e in
        subst (λ k. take k (x ∷ xs) ≡ take k (y ∷ ys)) (sym n) (ap₂ (λ z zs. z ∷ zs) ((bytes_decides x y).0 e) so_far)
    go false e so_far =
        let n = none_more x y xs ys e in
        subst (λ k. take k (x ∷ xs) ≡ take k (y ∷ ys)) (sym n) refl

-- texts whose lines after those are alike have no such lines
same_ends : (xs ys : List (List ℕ)) → slice_get xs (same_lines xs ys) ≡ slice_get ys (same_lines xs ys)
    → (xs ≡ ys) × (slice_get xs (same_lines xs ys) ≡ None)
same_ends [] [] e = (refl, refl)
same_ends [] (y ∷ ys) e = absurd (cc)
same_ends (x ∷ xs) [] e = absurd (cc)
same_ends (x ∷ xs) (y ∷ ys) e = go (text_eq x y) refl (same_ends xs ys)
  where
    go : (t : Bool) → text_eq x y ≡ t
        → (slice_get xs (same_lines xs ys) ≡ slice_get ys (same_lines xs ys)
        → (xs ≡ ys) × (slice_get xs (same_lines xs ys) ≡ None))
        → (x ∷ xs ≡ y ∷ ys) × (slice_get (x ∷ xs) (same_lines (x ∷ xs) (y ∷ ys)) ≡ None)
    go true alike more =
        let n = one_more x y xs ys alike in
        let both = more (subst (λ k. slice_get (x ∷ xs) k ≡ slice_get (y ∷ ys) k) n e) in (
          ap₂ (λ z zs. z ∷ zs) ((bytes_decides x y).0 alike) both.0,
          subst (λ k. slice_get (x ∷ xs) k ≡ None) (sym n) both.1,
        )
    go false other more =
        let n = none_more x y xs ys other in
        let first : Some x ≡ Some y = subst (λ k. slice_get (x ∷ xs) k ≡ slice_get (y ∷ ys) k) n e in
        let same : x ≡ y = cc in
        absurd (true≢false (sym ((bytes_decides x y).1 same) ∙ other))

-- ---- the first difference is the first

is_first : (old new : List (List ℕ)) (a b : Option (List ℕ)) → a ≡ slice_get old (same_lines old new)
    → b ≡ slice_get new (same_lines old new) → a ≢ b
    → IsFirst old new (record { number = same_lines old new + 1; old = a; new = b })
is_first old new a b first second other =
    let place : same_lines old new + 1 - 1 ≡ same_lines old new = omega arith in
    record {
      counted = omega arith;
      same_before = subst (λ k. take k old ≡ take k new) (sym place) (fronts_same old new);
      old_line = subst (λ k. a ≡ slice_get old k) (sym place) first;
      new_line = subst (λ k. b ≡ slice_get new k) (sym place) second;
      differ = other;
    }

pub first_holds : (old new : List (List ℕ)) → MatchOption (first_difference old new) (old ≡ new) (IsFirst old new)
unfolding first_difference
first_holds old new = go (slice_get old (same_lines old new)) (slice_get new (same_lines old new)) refl refl
  where
    go : (a b : Option (List ℕ)) → a ≡ slice_get old (same_lines old new) → b ≡ slice_get new (same_lines old new)
        → MatchOption (if_any (record { number = same_lines old new + 1; old = a; new = b })) (old ≡ new) (IsFirst old new)
    go None None first second = (same_ends old new (sym first ∙ second)).0
    go (Some x) b first second =
        is_first old new (Some x) b first second
        (λ e. let none = (same_ends old new (sym first ∙ e ∙ second)).1 in let bad : Some x ≡ None = first ∙ none in absurd (cc))
    go None (Some y) first second = is_first old new None (Some y) first second (λ e. absurd (cc))

-- ---- as the code finds it

get_after : (n : ℕ) (xs : List (List ℕ)) → slice_get (drop n xs) 0 ≡ slice_get xs n
get_after zero xs = refl
get_after (suc n) [] = refl
get_after (suc n) (x ∷ xs) = get_after n xs

-- the line of a text after those that are the same
line_after : (text rest : List ℕ) (before n : ℕ) (line : Option (List ℕ)) → IsRest text before rest → before ≡ n
    → line ≡ slice_get (texts_in rest) 0 → line ≡ slice_get (texts_in text) n
line_after text rest before n line is same first =
    first ∙ ap (λ xs. slice_get xs 0) is.lines ∙ get_after before (texts_in text) ∙ ap (slice_get (texts_in text)) same

-- what is found, by the lines after those that are the same
pub is_found : (old new old_rest new_rest : List ℕ) (before : ℕ) (a b : Option (List ℕ)) (t : Bool)
    → before ≡ same_lines (texts_in old) (texts_in new) → IsRest old before old_rest → IsRest new before new_rest
    → a ≡ slice_get (texts_in old_rest) 0 → b ≡ slice_get (texts_in new_rest) 0 → t ≡ (is_some a || is_some b)
    → cond t (Some (record { number = before + 1; old = a; new = b })) None ≡ first_difference (texts_in old) (texts_in new)
unfolding first_difference
is_found old new old_rest new_rest before a b t same old_is new_is first second some =
    ap (λ u. cond u (Some (record { number = before + 1; old = a; new = b })) None) some
    ∙ ap₂ (λ n x. if_any (record { number = n + 1; old = x; new = b })) same (line_after old old_rest before _ a old_is same first)
    ∙ ap (λ y. if_any (record { number = same_lines (texts_in old) (texts_in new) + 1; old = slice_get (texts_in old) (same_lines (texts_in old) (texts_in new)); new = y }))
    (line_after new new_rest before _ b new_is same second)

-- the lines of both texts at a place
abbrev pub place_of : ℕ → Option (Bor (List ℕ)) → Option (Bor (List ℕ)) → Difference
place_of before a b = record {
  number = before + 1;
  old = option_map (λ line. line.now) a;
  new = option_map (λ line. line.now) b;
}

same_test : (a b : Option (Bor (List ℕ))) → (is_some a || is_some b)
    ≡ (is_some (option_map (λ line. line.now) a) || is_some (option_map (λ line. line.now) b))
same_test None None = refl
same_test None (Some b) = refl
same_test (Some a) b = refl

-- what the code has when it returns
pub record IsLookedFor (old new old_rest new_rest : List ℕ) (before : ℕ) (a b : Option (Bor (List ℕ))) (t : Bool) : Type 0 where
  pub same : before ≡ same_lines (texts_in old) (texts_in new)
  pub old_is : IsRest old before old_rest
  pub new_is : IsRest new before new_rest
  pub first : option_map (λ line. line.now) a ≡ slice_get (texts_in old_rest) 0
  pub second : option_map (λ line. line.now) b ≡ slice_get (texts_in new_rest) 0
  pub test : t ≡ (is_some a || is_some b)

looked_for : (old new old_rest new_rest : List ℕ) (before : ℕ) (a b : Option (Bor (List ℕ))) (t : Bool)
    → IsLookedFor old new old_rest new_rest before a b t
    → cond t (Some (place_of before a b)) None ≡ first_difference (texts_in old) (texts_in new)
looked_for old new old_rest new_rest before a b t is =
    is_found old new old_rest new_rest before (option_map (λ line. line.now) a) (option_map (λ line. line.now) b) t is.same
    is.old_is is.new_is is.first is.second (is.test ∙ same_test a b)

pub found_none : (old new old_rest new_rest : List ℕ) (before : ℕ) (a b : Option (Bor (List ℕ))) (t : Bool)
    → IsLookedFor old new old_rest new_rest before a b t → t ≡ false
    → None ≡ first_difference (texts_in old) (texts_in new)
found_none old new old_rest new_rest before a b t is none =
    subst (λ u. cond u (Some (place_of before a b)) None ≡ first_difference (texts_in old) (texts_in new)) none
    (looked_for old new old_rest new_rest before a b t is)

pub found_some : (old new old_rest new_rest : List ℕ) (before : ℕ) (a b : Option (Bor (List ℕ))) (t : Bool)
    → IsLookedFor old new old_rest new_rest before a b t → t ≡ true
    → Some (place_of before a b) ≡ first_difference (texts_in old) (texts_in new)
found_some old new old_rest new_rest before a b t is some =
    subst (λ u. cond u (Some (place_of before a b)) None ≡ first_difference (texts_in old) (texts_in new)) some
    (looked_for old new old_rest new_rest before a b t is)
