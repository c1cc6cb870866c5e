-- Elements of arrays, one by one.
use Rattle.std.proofs.Common.{◌≡◌, ◌∙◌, ℕ, suc, ◌+◌, ◌-◌, ◌<◌, ◌≤◌, arith, Bool, true, false}
use Rattle.std.proofs.Common.{refl, ap, List}
use Rattle.std.proofs.Common.{Some, None}
use Rattle.std.specs.Prelude.{codes}
use Rattle.retro_path.specs.Order.{text_eq}
use Rattle.casebook_declare.specs.Arrays.{after_next, are_elements}

one_left : (all i : ℕ) → i < all → all - i ≡ suc (all - (i + 1))
one_left all i within = omega (arith, within)

at_end : (is_keyed is_first : Bool) (most : ℕ) (text : List ℕ) → text_eq text (codes ")") ≡ true
    → are_elements is_keyed is_first (suc most) text ≡ true
unfolding are_elements
at_end is_keyed is_first most text ends = rw ends refl

pub elements_end : (is_keyed is_first : Bool) (all i : ℕ) (text : List ℕ) → i < all
    → text_eq text (codes ")") ≡ true
    → are_elements is_keyed is_first (all - i) text ≡ true
elements_end is_keyed is_first all i text within ends =
    ap (λ n. are_elements is_keyed is_first n text) (one_left all i within)
    ∙ at_end is_keyed is_first (all - (i + 1)) text ends

at_odd : (is_keyed is_first : Bool) (most : ℕ) (text : List ℕ) → text_eq text (codes ")") ≡ false
    → after_next is_keyed is_first text ≡ None
    → are_elements is_keyed is_first (suc most) text ≡ false
unfolding are_elements
at_odd is_keyed is_first most text goes odd = rw (goes, odd) refl

pub elements_odd : (is_keyed is_first : Bool) (all i : ℕ) (text : List ℕ) → i < all
    → text_eq text (codes ")") ≡ false
    → after_next is_keyed is_first text ≡ None
    → are_elements is_keyed is_first (all - i) text ≡ false
elements_odd is_keyed is_first all i text within goes odd =
    ap (λ n. are_elements is_keyed is_first n text) (one_left all i within)
    ∙ at_odd is_keyed is_first (all - (i + 1)) text goes odd

at_element : (is_keyed is_first : Bool) (most : ℕ) (text rest : List ℕ)
    → text_eq text (codes ")") ≡ false
    → after_next is_keyed is_first text ≡ Some rest
    → are_elements is_keyed is_first (suc most) text ≡ are_elements is_keyed false most rest
unfolding are_elements
at_element is_keyed is_first most text rest goes is = rw (goes, is) refl

pub elements_more : (is_keyed is_first : Bool) (all i : ℕ) (text rest : List ℕ) → i < all
    → text_eq text (codes ")") ≡ false → after_next is_keyed is_first text ≡ Some rest
    → are_elements is_keyed is_first (all - i) text
    ≡ are_elements is_keyed false (all - (i + 1)) rest
elements_more is_keyed is_first all i text rest within goes is =
    ap (λ n. are_elements is_keyed is_first n text) (one_left all i within)
    ∙ at_element is_keyed is_first (all - (i + 1)) text rest goes is

none_left : (is_keyed is_first : Bool) (text : List ℕ)
    → are_elements is_keyed is_first 0 text ≡ false
unfolding are_elements
none_left is_keyed is_first text = refl

pub elements_over : (is_keyed is_first : Bool) (all i : ℕ) (text : List ℕ) → all ≤ i
    → are_elements is_keyed is_first (all - i) text ≡ false
elements_over is_keyed is_first all i text over =
    let none : all - i ≡ 0 = omega (arith, over) in
    ap (λ n. are_elements is_keyed is_first n text) none ∙ none_left is_keyed is_first text
