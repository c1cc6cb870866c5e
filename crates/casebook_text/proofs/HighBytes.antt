-- The bytes of a character past ASCII are past ASCII.
use Rattle.std.proofs.Common.{◌≡◌, ℕ, ◌+◌, ◌/◌, ◌%◌, ◌≤◌, Bool, true, refl, ap, ◌∙◌, arith, List}
use Rattle.std.proofs.Common.{[], ◌∷◌, ◌++◌}
use Rattle.std.proofs.Common.{⊎_elim, flat_map}
use Rattle.std.specs.Prelude.{nat_le}
use Rattle.std.specs.List.{list_all}
use Rattle.std.specs.Char.{encode_utf8}
use Rattle.std.proofs.lemmas.Bool.{and_from, and_parts, le-leb, leb-true, le-ltb, lt-ltb, cases_lt}

abbrev pub is_high : ℕ → Bool
is_high b = nat_le 128 b

-- a byte that continues a character, and the bytes after it
next_high : (c : ℕ) (bs : List ℕ) → list_all is_high bs ≡ true → list_all is_high ((128 + c % 64) ∷ bs) ≡ true
next_high c bs all = and_from _ _ (le-leb 128 (128 + c % 64) (omega arith)) all

-- the bytes that continue a character: one, two and three
one_high : (c : ℕ) → list_all is_high ((128 + c % 64) ∷ []) ≡ true
one_high c = next_high c [] refl

two_high : (c : ℕ) → list_all is_high ((128 + (c / 64) % 64) ∷ (128 + c % 64) ∷ []) ≡ true
two_high c = next_high (c / 64) ((128 + c % 64) ∷ []) (one_high c)

three_high : (c : ℕ) → list_all is_high ((128 + (c / 4096) % 64) ∷ (128 + (c / 64) % 64) ∷ (128 + c % 64) ∷ []) ≡ true
three_high c = next_high (c / 4096) ((128 + (c / 64) % 64) ∷ (128 + c % 64) ∷ []) (two_high c)

pub high_bytes : (c : ℕ) → 128 ≤ c → list_all is_high (encode_utf8 c) ≡ true
unfolding encode_utf8
high_bytes c low =
    ⊎_elim
    (λ two. rw (le-ltb c 128 low, lt-ltb c 2048 two) (and_from _ _ (le-leb 128 (192 + c / 64) (omega arith)) (one_high c)))
    (λ wide.
    ⊎_elim
    (λ three. rw (le-ltb c 128 low, le-ltb c 2048 wide, lt-ltb c 65536 three)
    (and_from _ _ (le-leb 128 (224 + c / 4096) (omega arith)) (two_high c)))
    (λ four. rw (le-ltb c 128 low, le-ltb c 2048 wide, le-ltb c 65536 four)
    (and_from _ _ (le-leb 128 (240 + c / 262144) (omega arith)) (three_high c)))
    (cases_lt c 65536))
    (cases_lt c 2048)

-- what holds of bytes past ASCII holds of each of these
pub high_all : (p : ℕ → Bool) → ((b : ℕ) → 128 ≤ b → p b ≡ true) → (bs : List ℕ) → list_all is_high bs ≡ true
    → list_all p bs ≡ true
high_all p each [] all = refl
high_all p each (b ∷ bs) all =
    let both = and_parts (is_high b) (list_all is_high bs) all in
    and_from _ _ (each b (leb-true 128 b both.0)) (high_all p each bs both.1)

-- a function that keeps each byte past ASCII keeps them all
pub high_kept : (f : ℕ → List ℕ) → ((b : ℕ) → 128 ≤ b → f b ≡ b ∷ []) → (bs : List ℕ) → list_all is_high bs ≡ true
    → flat_map f bs ≡ bs
high_kept f each [] all = refl
high_kept f each (b ∷ bs) all =
    let both = and_parts (is_high b) (list_all is_high bs) all in
    ap (λ t. t ++ flat_map f bs) (each b (leb-true 128 b both.0)) ∙ ap (λ t. b ∷ t) (high_kept f each bs both.1)
