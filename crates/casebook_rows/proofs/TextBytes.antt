-- What is UTF-8 is bytes.
use Rattle.std.proofs.Common.{◌≡◌, ℕ, ◌+◌, ◌/◌, ◌<◌, ltb, true, List, [], ◌∷◌, All, IsUtf8, arith}
use Rattle.std.proofs.Common.{inl, inr}
use Rattle.std.specs.Char.{encode_utf8}
use Rattle.std.specs.Str.{encode_utf8_all}
use Rattle.std.proofs.Math.Utf8.{next, scalar, scalar_cases, scalars}
use Rattle.std.proofs.lemmas.Bool.{and_parts, cond_both, ltb-true}
use Rattle.std.proofs.lemmas.List.Elements.{All-append, All-cons, All-nil}
use Rattle.percent_encoding.proofs.PercentLemmas.{IsByte}

-- the last byte of a character
end : (b : ℕ) → b < 256 → All IsByte (b ∷ [])
end b small = All-cons IsByte b [] small (All-nil IsByte)

of_two : (c : ℕ) → c < 2048 → All IsByte ((192 + c / 64) ∷ next c ∷ [])
of_two c small =
    All-cons IsByte (192 + c / 64) (next c ∷ []) (omega arith) (end (next c) (omega arith))

of_three : (c : ℕ) → c < 65536 → All IsByte ((224 + c / 4096) ∷ next (c / 64) ∷ next c ∷ [])
of_three c small =
    All-cons IsByte (224 + c / 4096) (next (c / 64) ∷ next c ∷ []) (omega arith)
    (All-cons IsByte (next (c / 64)) (next c ∷ []) (omega arith) (end (next c) (omega arith)))

of_four : (c : ℕ) → c < 1114112
    → All IsByte ((240 + c / 262144) ∷ next (c / 4096) ∷ next (c / 64) ∷ next c ∷ [])
of_four c small =
    All-cons IsByte (240 + c / 262144) (next (c / 4096) ∷ next (c / 64) ∷ next c ∷ []) (omega arith)
    (All-cons IsByte (next (c / 4096)) (next (c / 64) ∷ next c ∷ []) (omega arith)
    (All-cons IsByte (next (c / 64)) (next c ∷ []) (omega arith) (end (next c) (omega arith))))

character : (c : ℕ) → scalar c ≡ true → All IsByte (encode_utf8 c)
unfolding encode_utf8
character c h =
    let small : c < 1114112 =
    elim (scalar_cases c h) [ inl low ↦ omega arith | inr high ↦ omega arith ] in
    cond_both (ltb c 128) _ _ (All IsByte) (λ e. end c (omega (arith, ltb-true c 128 e)))
    (λ _. cond_both (ltb c 2048) _ _ (All IsByte) (λ e. of_two c (ltb-true c 2048 e))
    (λ _. cond_both (ltb c 65536) _ _ (All IsByte) (λ e. of_three c (ltb-true c 65536 e))
    (λ _. of_four c small)))

characters : (cs : List ℕ) → scalars cs ≡ true → All IsByte (encode_utf8_all cs)
characters [] h = All-nil IsByte
characters (c ∷ cs) h =
    let k = and_parts (scalar c) (scalars cs) h in
    All-append IsByte (encode_utf8 c) (encode_utf8_all cs) (character c k.0) (characters cs k.1)

pub bytes_of_utf8 : (bs : List ℕ) → IsUtf8 bs → All IsByte bs
bytes_of_utf8 bs h = rw (← h.1.1) (characters h.0 h.1.0)
