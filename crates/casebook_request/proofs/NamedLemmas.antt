-- The name of the document that has a list.
use Rattle.std.proofs.Common.{◌≡◌, ◌≢◌, ℕ, ◌+◌, List, [], ◌∷◌, length, drop, Option, Some, None, option_map, refl, ap}
use Rattle.std.proofs.Common.{MatchOption, arith, ⊎_elim}
use Rattle.std.specs.Prelude.{◌==◌}
use Rattle.std.proofs.lemmas.Bool.{cases_Bool, eqb-true}
use Rattle.std.proofs.lemmas.Str.Pattern.{strip_prefix_char}
use Rattle.std.specs.Str.Pattern.{FindsCharPrefix}
use denote.Ref.{Bor}
use Rattle.casebook_request.specs.Sources.{document_named}

pub named_from_strip : (text : List ℕ) (r : Option (Bor (List ℕ)))
    → MatchOption r (FindsCharPrefix 64 text None)
    (λ x. (n : ℕ) × FindsCharPrefix 64 text (Some n) × (x.now ≡ drop n text) × (length x.now + n ≡ length text))
    → option_map (λ x. x.now) r ≡ document_named text
unfolding document_named
named_from_strip text r h = by_result text r (strip_prefix_char 64 text r h (omega arith))
  where
    by_result : (text : List ℕ) (r : Option (Bor (List ℕ)))
        → MatchOption r ((rest : List ℕ) → text ≢ 64 ∷ rest) (λ x. text ≡ 64 ∷ x.now)
        → option_map (λ x. x.now) r ≡ document_named text
    by_result text (Some x) e = rw e refl
    by_result [] None e = refl
    by_result (b ∷ rest) None e =
        ⊎_elim (λ same. absurd (e rest (ap (λ c. c ∷ rest) (eqb-true b 64 same)))) (λ other. rw other refl) (cases_Bool (b == 64))
