-- Attributes, printed and read.
use Rattle.std.proofs.Common.{◌≡◌, ◌∙◌, ℕ, Bool, true, false, not, refl, sym, List, [], ◌∷◌}
use Rattle.std.proofs.Common.{length, eq-eqb, lt-ltb, arith}
use Rattle.std.proofs.Common.{Some, ⊎_elim}
use Rattle.std.specs.Prelude.{◌==◌, ◌||◌, ◌&&◌, codes, filter}
use Rattle.std.specs.List.{list_all, list_any}
use Rattle.std.proofs.lemmas.Bool.{and_parts, cases_Bool, eqb-true, not-true}
use Rattle.casebook_declare.specs.Attributes.{are_among, are_flags, assignment_of, attributes}
use Rattle.casebook_declare.specs.Attributes.{attributes_of, has, letters, without}
use Rattle.casebook_declare.specs.Printed.{flags_text, or_dash}
use Rattle.casebook_declare.specs.declared.attributes.Kind.TheVariants as kinds

-- no number is twice in a list
abbrev distinct : List ℕ → Bool
distinct [] = true
distinct (x ∷ xs) = list_all (λ y. not (y == x)) xs && distinct xs

pub all_filter : (q p : ℕ → Bool) (xs : List ℕ) → list_all q xs ≡ true
    → list_all q (filter p xs) ≡ true
all_filter q p [] h = refl
all_filter q p (x ∷ xs) h =
    let k = and_parts (q x) (list_all q xs) h in
    ⊎_elim (λ (kept : p x ≡ true). rw (kept, k.0) (all_filter q p xs k.1))
    (λ (left : p x ≡ false). rw left (all_filter q p xs k.1)) (cases_Bool (p x))

without_other : (letter : ℕ) (flags : List ℕ) → list_all (λ y. not (y == letter)) flags ≡ true
    → without letter flags ≡ flags
without_other letter [] h = refl
without_other letter (flag ∷ flags) h =
    rw (not-true (flag == letter)
    (and_parts (not (flag == letter)) (list_all (λ y. not (y == letter)) flags) h).0) refl

among_again : (p : ℕ → Bool) (ls : List ℕ) → distinct ls ≡ true → are_among (filter p ls) ls ≡ true
unfolding are_among
among_again p [] h = refl
among_again p (l ∷ ls) h =
    let k = and_parts (list_all (λ y. not (y == l)) ls) (distinct ls) h in
    ⊎_elim
    (λ (kept : p l ≡ true). rw (kept, eq-eqb l l refl) (among_again p ls k.1))
    (λ (left : p l ≡ false).
    rw (left, without_other l (filter p ls) (all_filter (λ y. not (y == l)) p ls k.0))
    (among_again p ls k.1))
    (cases_Bool (p l))

and_false : (b : Bool) → (b && false) ≡ false
and_false true = refl
and_false false = refl

has_again : (p : ℕ → Bool) (ls : List ℕ) (letter : ℕ)
    → has (filter p ls) letter ≡ (list_any (λ l. l == letter) ls && p letter)
has_again p [] letter = refl
has_again p (l ∷ ls) letter =
    ⊎_elim
    (λ (same : (l == letter) ≡ true).
    let e : l ≡ letter = eqb-true l letter same in
    ⊎_elim
    (λ (kept : p l ≡ true). rw (kept, same) (sym (rw (← e) kept)))
    (λ (left : p l ≡ false).
    let none : p letter ≡ false = rw (← e) left in
    rw (left, has_again p ls letter, same, none) (and_false (list_any (λ l. l == letter) ls)))
    (cases_Bool (p l)))
    (λ (other : (l == letter) ≡ false).
    ⊎_elim
    (λ (kept : p l ≡ true). rw (kept, other) (has_again p ls letter))
    (λ (left : p l ≡ false). rw (left, other) (has_again p ls letter))
    (cases_Bool (p l)))
    (cases_Bool (l == letter))

dash_has : (flags : List ℕ) (letter : ℕ) → (45 == letter) ≡ false
    → has (or_dash flags) letter ≡ has flags letter
dash_has [] letter other = rw other refl
dash_has (flag ∷ flags) letter other = refl

or_true : (b : Bool) → (b || true) ≡ true
or_true true = refl
or_true false = refl

dash_flags : (flags : List ℕ) → are_among flags letters ≡ true → are_flags (or_dash flags) ≡ true
unfolding are_flags
dash_flags [] h = refl
dash_flags (flag ∷ flags) h = rw (lt-ltb 0 (length (flag ∷ flags)) (omega arith), h) (or_true _)

-- the letters of a variable that is printed
abbrev chosen : (ℕ → Bool) → ℕ → Bool
chosen is_set letter = list_any (λ l. l == letter) (codes "irtxclu") && is_set letter

letter_again : (is_set : ℕ → Bool) (letter : ℕ) → list_any (λ l. l == letter) letters ≡ true
    → (45 == letter) ≡ false
    → has (flags_text is_set) letter ≡ chosen is_set letter
unfolding flags_text
letter_again is_set letter one other =
    dash_has (filter (chosen is_set) letters) letter other
    ∙ has_again (chosen is_set) letters letter ∙ rw one refl

flags_again : (is_set : ℕ → Bool) → are_flags (flags_text is_set) ≡ true
unfolding flags_text
flags_again is_set = dash_flags (filter (chosen is_set) letters)
    (among_again (chosen is_set) letters refl)

pub attributes_again : (is_set : ℕ → Bool)
    → attributes_of (flags_text is_set)
    ≡ Some (record {
      kind = kinds.Value;
      is_exported = is_set 120;
      assignment =
          assignment_of is_set;
    })
unfolding attributes_of attributes
attributes_again is_set =
    let flags : are_flags (flags_text is_set) ≡ true = flags_again is_set in
    let e97 : has (flags_text is_set) 97 ≡ false = letter_again is_set 97 refl refl in
    let e65 : has (flags_text is_set) 65 ≡ false = letter_again is_set 65 refl refl in
    let e110 : has (flags_text is_set) 110 ≡ false = letter_again is_set 110 refl refl in
    let e105 : has (flags_text is_set) 105 ≡ is_set 105 = letter_again is_set 105 refl refl in
    let e114 : has (flags_text is_set) 114 ≡ is_set 114 = letter_again is_set 114 refl refl in
    let e120 : has (flags_text is_set) 120 ≡ is_set 120 = letter_again is_set 120 refl refl in
    let e99 : has (flags_text is_set) 99 ≡ is_set 99 = letter_again is_set 99 refl refl in
    let e108 : has (flags_text is_set) 108 ≡ is_set 108 = letter_again is_set 108 refl refl in
    let e117 : has (flags_text is_set) 117 ≡ is_set 117 = letter_again is_set 117 refl refl in
    rw (flags, e97, e65, e110, e105, e114, e120, e99, e108, e117) refl

-- flags have no byte that isn't a letter or a dash
pub flags_without : (q : ℕ → Bool) (is_set : ℕ → Bool) → list_all q letters ≡ true → q 45 ≡ true
    → list_all q (flags_text is_set) ≡ true
unfolding flags_text
flags_without q is_set h dash =
    dashed q (filter (chosen is_set) letters) dash (all_filter q (chosen is_set) letters h)
  where
    dashed : (q : ℕ → Bool) (flags : List ℕ) → q 45 ≡ true → list_all q flags ≡ true
        → list_all q (or_dash flags) ≡ true
    dashed q [] dash h = rw dash refl
    dashed q (flag ∷ flags) dash h = h
