-- What follows the start of a text, as `strip_prefix` returns it.
use Rattle.std.proofs.Common.{◌≡◌, ◌≢◌, ◌∙◌, ℕ, true, false, refl, sym, ap, List, [], ◌∷◌, ◌++◌}
use Rattle.std.proofs.Common.{length, take, drop, ◌+◌}
use Rattle.std.proofs.Common.{Option, Some, None, MatchOption, option_map, eq-eqb, ⊎_elim}
use Rattle.std.specs.Prelude.{◌==◌}
use Rattle.std.specs.Cmp.Lexicographic.{pointwise}
use Rattle.std.specs.Prelude.{nat_eq}
use Rattle.std.proofs.lemmas.Bool.{cases_Bool, eqb-true}
use Rattle.std.proofs.lemmas.Bool.Decides.{Decides-eqb}
use Rattle.std.proofs.lemmas.Slice.Eq.{strip_prefix_is}
use denote.Ref.{Bor}
use Rattle.casebook_declare.specs.Parts.{after}

pub after_front : (front rest : List ℕ) → after front (front ++ rest) ≡ Some rest
unfolding after
after_front [] rest = refl
after_front (p ∷ front) rest = rw (eq-eqb p p refl) (after_front front rest)

other_start : (front text : List ℕ) → ((rest : List ℕ) → text ≢ front ++ rest)
    → None ≡ after front text
unfolding after
other_start [] text h = absurd (h text refl)
other_start (p ∷ front) [] h = refl
other_start (p ∷ front) (b ∷ text) h =
    ⊎_elim
    (λ same. rw same (other_start front text
    (λ rest e. h rest (ap (λ (c : ℕ). c ∷ text) (eqb-true b p same)
    ∙ ap (λ (t : List ℕ). p ∷ t) e))))
    (λ other. rw other refl) (cases_Bool (b == p))

by_result : (front text : List ℕ) (r : Option (Bor (List ℕ)))
    → MatchOption r ((rest : List ℕ) → text ≢ front ++ rest) (λ x. text ≡ front ++ x.now)
    → option_map (λ x. x.now) r ≡ after front text
by_result front text (Some x) e = sym (ap (after front) e ∙ after_front front x.now)
by_result front text None e = other_start front text e

pub after_from_strip : (front text : List ℕ) (r : Option (Bor (List ℕ)))
    → MatchOption r (pointwise nat_eq (take (length front) text) front ≡ false)
    (λ x. (pointwise nat_eq (take (length front) text) front ≡ true) ×
    (x.now ≡ drop (length front) text)
    × (length x.now + length front ≡ length text))
    → option_map (λ x. x.now) r ≡ after front text
after_from_strip front text r h = by_result front text r
    (strip_prefix_is Decides-eqb text front r h)
