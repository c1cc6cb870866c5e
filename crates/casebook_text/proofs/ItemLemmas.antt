-- Items of lists, as the code reads them.
use Rattle.std.proofs.Common.{true, false, nat_lt, sym, Bool, ◌∙◌, ◌≡◌, ◌≢◌, ℕ, ◌<◌, List, [], ◌∷◌}
use Rattle.std.proofs.Common.{length, refl, ap, ap₂, arith}
use Rattle.std.proofs.Common.{Option, Some, None, option_map, MatchOption, drop, ◌+◌, ⊎_elim}
use Rattle.std.proofs.Common.{take_all}
use Rattle.std.specs.Prelude.{◌==◌}
use Rattle.std.specs.List.{before_first, after_first, position_or_len}
use Rattle.std.proofs.lemmas.Bool.{lt-ltb, le-ltb, cases_Bool, cases_lt, eqb-true}
use Rattle.std.proofs.lemmas.Str.Pattern.{IsSplitOnceResult, split_once_first, strip_prefix_char}
use Rattle.std.specs.Str.Pattern.{FindsCharPrefix}
use Rattle.std.specs.Bool.{if◌then◌else◌}
use denote.Ref.{Bor}
use Rattle.casebook_text.specs.Item.{after_dash}
use Rattle.casebook_text.specs.Splitting.{cut_at}

pub cut_from_split : (c : ℕ) (text : List ℕ) (r : Option (Bor (List ℕ) × Bor (List ℕ))) → IsSplitOnceResult c text r → c < 128
    → option_map (λ p. (p.0.now, p.1.now)) r ≡ cut_at c text
unfolding cut_at
cut_from_split c text r h low = by_result r (split_once_first c text r h low)
  where
    by_result : (r : Option (Bor (List ℕ) × Bor (List ℕ)))
        → MatchOption r (position_or_len (λ b. b == c) text ≡ length text)
        (λ x. (position_or_len (λ b. b == c) text < length text)
        × (x.0.now ≡ before_first (λ b. b == c) text) × (x.1.now ≡ after_first (λ b. b == c) text))
        → option_map (λ p. (p.0.now, p.1.now)) r ≡ cut_at c text
    by_result None e = rw (le-ltb (position_or_len (λ b. b == c) text) (length text) (omega arith)) refl
    by_result (Some x) e =
        rw (lt-ltb (position_or_len (λ b. b == c) text) (length text) e.0)
        (ap₂ (λ (a : List ℕ) (b : List ℕ). Some (a, b)) e.1 e.2)

pub dash_from_strip : (text : List ℕ) (r : Option (Bor (List ℕ)))
    → MatchOption r (FindsCharPrefix 45 text None)
    (λ x. (n : ℕ) × FindsCharPrefix 45 text (Some n) × (x.now ≡ drop n text) × (length x.now + n ≡ length text))
    → option_map (λ x. x.now) r ≡ after_dash text
unfolding after_dash
dash_from_strip text r h = by_result text r (strip_prefix_char 45 text r h (omega arith))
  where
    by_result : (text : List ℕ) (r : Option (Bor (List ℕ)))
        → MatchOption r ((rest : List ℕ) → text ≢ 45 ∷ rest) (λ x. text ≡ 45 ∷ x.now)
        → option_map (λ x. x.now) r ≡ after_dash text
    by_result text (Some x) e = rw e refl
    by_result [] None e = refl
    by_result (b ∷ rest) None e =
        ⊎_elim (λ same. absurd (e rest (ap (λ c. c ∷ rest) (eqb-true b 45 same)))) (λ other. rw other refl) (cases_Bool (b == 45))

-- what comes before the first such byte, or the whole text
abbrev cut_into : List ℕ → List ℕ → Option (List ℕ × List ℕ)
cut_into before after = Some (before, after)

abbrev first_part : Option (List ℕ × List ℕ) → List ℕ
first_part None = []
first_part (Some parts) = parts.0

pub before_cut : (c : ℕ) (text : List ℕ) (before after : List ℕ) → Some (before, after) ≡ cut_at c text
    → before ≡ before_first (λ b. b == c) text
unfolding cut_at
before_cut c text before after h = by_test (nat_lt (position_or_len (λ b. b == c) text) (length text)) h
  where
    by_test : (t : Bool)
        → cut_into before after
        ≡ (if t then cut_into (before_first (λ b. b == c) text) (after_first (λ b. b == c) text) else None)
        → before ≡ before_first (λ b. b == c) text
    by_test true e = ap first_part e
    by_test false e = cc

pub no_cut : (c : ℕ) (text : List ℕ) → None ≡ cut_at c text → text ≡ before_first (λ b. b == c) text
unfolding cut_at
no_cut c text h =
    ⊎_elim
    (λ lt. let e = h ∙ ap (λ t. if t then Some (before_first (λ b. b == c) text, after_first (λ b. b == c) text) else None) (lt-ltb (position_or_len (λ b. b == c) text) (length text) lt) in cc)
    (λ le. sym (take_all (position_or_len (λ b. b == c) text) text le))
    (cases_lt (position_or_len (λ b. b == c) text) (length text))
