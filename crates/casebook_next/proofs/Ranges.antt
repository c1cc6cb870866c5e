-- The numbers of texts, one by one.
use Rattle.std.proofs.Common.{◌≡◌, ◌≤◌, ◌+◌, ◌-◌, ◌++◌, ◌∙◌, ◌∷◌, ℕ, zero, suc, List, [], ap, append_assoc, arith, sym}
use Rattle.std.specs.List.{range_with_len}
use Rattle.casebook_account.specs.Edits.{text_numbers}
use Rattle.casebook_account.specs.declared.machine_line.MachineLine.{MachineLine}

last : (a n j : ℕ) → a + n ≡ j → range_with_len a (suc n) ≡ range_with_len a n ++ j ∷ []
last a zero j e = let same : a ≡ j = omega (arith, e) in ap (λ k. k ∷ []) same
last a (suc n) j e = ap (λ l. a ∷ l) (last (a + 1) n j (omega (arith, e)))

counting_more : (a n j : ℕ) → a + n ≡ j → range_with_len a (n + 1) ≡ range_with_len a n ++ j ∷ []
counting_more a n j e = let on : n + 1 ≡ suc n = omega arith in ap (range_with_len a) on ∙ last a n j e

pub one_more : (old numbers more : List ℕ) (first number : ℕ) → first ≤ number
    → numbers ≡ old ++ range_with_len first (number - first) → more ≡ numbers ++ number ∷ []
    → more ≡ old ++ range_with_len first ((number + 1) - first)
one_more old numbers more first number le so_far pushed =
    let here : first + (number - first) ≡ number = omega (arith, le) in
    let next : (number - first) + 1 ≡ (number + 1) - first = omega (arith, le) in
    pushed ∙ ap (λ ns. ns ++ number ∷ []) so_far
    ∙ append_assoc old (range_with_len first (number - first)) (number ∷ [])
    ∙ ap (λ ns. old ++ ns) (sym (counting_more first (number - first) number here))
    ∙ ap (λ n. old ++ range_with_len first n) next

pub no_texts : (line : MachineLine) → line.end ≤ line.first → text_numbers line ≡ []
no_texts line le =
    let none : line.end - line.first ≡ 0 = omega (arith, le) in
    ap (range_with_len line.first) none
