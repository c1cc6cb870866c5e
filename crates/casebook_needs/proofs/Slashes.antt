-- A text up to its last slash, as the text grows.
use Rattle.std.proofs.Common.{◌≡◌, ◌∙◌, ℕ, Bool, true, false, ◌||◌, refl, ap, List, [], ◌∷◌, ◌++◌}
use Rattle.std.specs.Prelude.{if◌then◌else◌, ◌==◌}
use Rattle.std.specs.List.{list_any}
use Rattle.retro_path.specs.Ascii.{slash}
use Rattle.casebook_needs.specs.Named.{up_to_slash}

abbrev has_slash : List ℕ → Bool
has_slash text = list_any (λ c. c == slash) text

has_slash_more : (text : List ℕ) (b : ℕ) (a : Bool) → (b == slash) ≡ a
    → has_slash (text ++ b ∷ []) ≡ (has_slash text || a)
has_slash_more [] b true e = ap (λ t. t || false) e
has_slash_more [] b false e = ap (λ t. t || false) e
has_slash_more (c ∷ text) b a e = by_test (c == slash) (has_slash_more text b a e)
  where
    by_test : (t : Bool) → has_slash (text ++ b ∷ []) ≡ (has_slash text || a)
        → (t || has_slash (text ++ b ∷ [])) ≡ ((t || has_slash text) || a)
    by_test true h = refl
    by_test false h = h

or_true : (t : Bool) → (t || true) ≡ true
or_true true = refl
or_true false = refl

or_false : (t : Bool) → (t || false) ≡ t
or_false true = refl
or_false false = refl

-- a slash at the end: all of the text
pub slash_more : (text : List ℕ) (b : ℕ) → (b == slash) ≡ true
    → up_to_slash (text ++ b ∷ []) ≡ text ++ b ∷ []
slash_more [] b e = ap (λ t. if t || false then b ∷ [] else []) e
slash_more (c ∷ text) b e =
    ap (λ t. if (c == slash) || t then c ∷ up_to_slash (text ++ b ∷ []) else [])
    (has_slash_more text b true e ∙ or_true (has_slash text))
    ∙ ap (λ t. if t then c ∷ up_to_slash (text ++ b ∷ []) else []) (or_true (c == slash))
    ∙ ap (λ t. c ∷ t) (slash_more text b e)

-- another byte at the end: no more than before
pub other_more : (text : List ℕ) (b : ℕ) → (b == slash) ≡ false
    → up_to_slash (text ++ b ∷ []) ≡ up_to_slash text
other_more [] b e = ap (λ t. if t || false then b ∷ [] else []) e
other_more (c ∷ text) b e =
    ap (λ t. if (c == slash) || t then c ∷ up_to_slash (text ++ b ∷ []) else [])
    (has_slash_more text b false e ∙ or_false (has_slash text))
    ∙ ap (λ t. if (c == slash) || has_slash text then c ∷ t else []) (other_more text b e)
