-- Flags, letter by letter.
use Rattle.std.proofs.Common.{◌≡◌, ◌∙◌, ℕ, ◌+◌, ◌<◌, refl, ap, List, ◌∷◌, length, drop, get_or}
use Rattle.std.proofs.Common.{drop-cons, add-one}
use Rattle.casebook_declare.specs.Attributes.{are_among, without}

one_letter : (flags : List ℕ) (letter : ℕ) (more : List ℕ)
    → are_among flags (letter ∷ more) ≡ are_among (without letter flags) more
unfolding are_among
one_letter flags letter more = refl

pub next_letter : (flags letters : List ℕ) (i : ℕ) → i < length letters
    → are_among flags (drop i letters)
    ≡ are_among (without (get_or letters i 0) flags) (drop (i + 1) letters)
next_letter flags letters i within =
    ap (are_among flags) (drop-cons letters i 0 within ∙ rw add-one refl)
    ∙ one_letter flags (get_or letters i 0) (drop (i + 1) letters)
