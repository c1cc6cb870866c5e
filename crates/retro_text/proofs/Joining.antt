-- Joining texts with a byte between each two.
use Rattle.std.proofs.Common.{◌≡◌, ℕ, ◌-◌, ◌<◌, List, [], ◌∷◌, ◌++◌, length, map, take, drop, get_or, ap, ◌∙◌, arith}
use Rattle.std.proofs.lemmas.List.{append-nil, append_assoc, take_all}
use Rattle.std.specs.List.{join_with_byte}
use Rattle.retro_text.specs.Output.{spaced}

-- the first operand, and each other after a space
joins : (first : List ℕ) (rest : List (List ℕ)) → first ++ spaced rest ≡ join_with_byte 32 (first ∷ rest)
joins first [] = append-nil first
joins first (next ∷ rest) = ap (λ text. first ++ (32 ∷ text)) (joins next rest)

pub text_joins : (text first : List ℕ) (rest : List (List ℕ))
    → (text ++ first) ++ spaced rest ≡ text ++ join_with_byte 32 (first ∷ rest)
text_joins text first rest = append_assoc text first (spaced rest) ∙ ap (λ joined. text ++ joined) (joins first rest)

-- the same, as the code takes a list of operands apart
pub list_joins : {X : Type 0} (bytes : X → List ℕ) (text : List ℕ) (operands : List X) (first : X) → 0 < length operands
    → first ≡ get_or operands 0 first
    → (text ++ bytes first) ++ spaced (map bytes (take (length operands - 1) (drop 1 operands)))
    ≡ text ++ join_with_byte 32 (map bytes operands)
list_joins bytes text [] first filled is = absurd (omega arith)
list_joins bytes text (operand ∷ operands) first filled is =
    let rest : take (length (operand ∷ operands) - 1) operands ≡ operands = take_all _ operands (omega arith) in
    ap (λ o. (text ++ bytes o) ++ spaced (map bytes (take (length (operand ∷ operands) - 1) operands))) is
    ∙ ap (λ os. (text ++ bytes operand) ++ spaced (map bytes os)) rest
    ∙ (text_joins text (bytes operand) (map bytes operands))
