-- A line that is made piece by piece.
use Rattle.std.proofs.Common.{◌≡◌, ◌∙◌, ◌++◌, ℕ, List, [], ap}

pub five_pieces : (l0 l1 l2 l3 l4 l5 a b c d e : List ℕ) → l0 ≡ [] → l1 ≡ l0 ++ a → l2 ≡ l1 ++ b → l3 ≡ l2 ++ c
    → l4 ≡ l3 ++ d → l5 ≡ l4 ++ e → l5 ≡ a ++ b ++ c ++ d ++ e
five_pieces l0 l1 l2 l3 l4 l5 a b c d e none one two three four five =
    five ∙ ap (λ xs. xs ++ e) (four ∙ ap (λ xs. xs ++ d) (three ∙ ap (λ xs. xs ++ c) (two ∙ ap (λ xs. xs ++ b)
    (one ∙ ap (λ xs. xs ++ a) none))))
