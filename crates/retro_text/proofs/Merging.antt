-- Merging spans that are in the order of their first indices.
use Rattle.std.proofs.Common.{◌≡◌, ℕ, suc, ◌+◌, ◌-◌, ◌<◌, ◌≤◌, Bool, true, false, List, [], ◌∷◌, ◌++◌, ◌||◌, ◌&&◌, get_or, refl}
use Rattle.std.proofs.Common.{length, drop, sym, ap, ◌∙◌, arith, tests, ⊎_elim, subst}
use Rattle.std.specs.Prelude.{nat_le, Option, Some, None}
use Rattle.std.proofs.lemmas.List.{drop_more, drop_all, get_or_default, get_or_push, length_push}
use Rattle.std.proofs.lemmas.List.Sorted.{IsNonDecreasingBy-push}
use Rattle.std.proofs.lemmas.List.Folds.{list_any-append}
use Rattle.std.proofs.lemmas.Bool.{cases_lt}
use Rattle.retro_text.specs.declared.span.Span.{Span}
use Rattle.retro_text.specs.Spans.{any_contains, contains, is_up_to, span}
use Rattle.retro_text.specs.inner.Rising.{AreRising, SelectAlike}
use Rattle.retro_text.proofs.Rising.{and_true, begun, later, or_assoc, or_false}

-- ---- a span and the next one

up_to_less : (last : Option ℕ) (i j : ℕ) → i ≤ j → is_up_to last j ≡ true → is_up_to last i ≡ true
up_to_less None i j le h = refl
up_to_less (Some last) i j le h = grind (arith, tests)

-- a span that reaches the first index of the next one, and the next one
pub joins : (s next : Span) (last : Option ℕ) → s.first ≤ next.first → is_up_to s.last next.first ≡ true
    → ((i : ℕ) → is_up_to last i ≡ (is_up_to s.last i || is_up_to next.last i)) → (i : ℕ)
    → contains (span s.first last) i ≡ (contains s i || contains next i)
joins s next last le meets extends i = ⊎_elim before from (cases_lt i next.first)
  where
    before : i < next.first → contains (span s.first last) i ≡ (contains s i || contains next i)
    before lt =
        let up = up_to_less s.last i next.first (omega (arith, lt)) meets in
        ap (λ b. nat_le s.first i && b) (extends i ∙ ap (λ b. b || is_up_to next.last i) up)
        ∙ ap (λ b. nat_le s.first i && b) (sym up)
        ∙ sym (or_false (contains s i)) ∙ ap (λ b. contains s i || b) (sym (later next i lt))

    from : next.first ≤ i → contains (span s.first last) i ≡ (contains s i || contains next i)
    from ge =
        and_true (nat_le s.first i) (is_up_to last i) (grind (arith, tests))
        ∙ extends i
        ∙ ap (λ b. b || is_up_to next.last i) (sym (begun s i (omega (arith, le, ge))))
        ∙ ap (λ b. contains s i || b) (sym (begun next i ge))

-- ---- the list so far

-- The spans `merged` and `current` have the indices of the spans before place k of `rest`, and so,
-- with those from k on, of all. Their first indices don't fall.
unfoldable pub IsMerging : List Span → List Span → ℕ → List Span → Span → Type 0
IsMerging spans rest k merged current =
    ((i : ℕ) → ((any_contains merged i || contains current i) || any_contains (drop k rest) i) ≡ any_contains spans i)
    × AreRising merged
    × ((d : Span) → 0 < length merged → (get_or merged (length merged - 1) d).first ≤ current.first)
    × ((j : ℕ) (d : Span) → k ≤ j → j < length rest → current.first ≤ (get_or rest j d).first)

starts : (s : Span) (rest : List Span) → AreRising (s ∷ rest) → IsMerging (s ∷ rest) rest 0 [] s
unfolding any_contains IsMerging
starts s rest rising = (
  λ i. refl,
  λ i j d le lt. absurd (omega (arith, lt)),
  λ d some. absurd (omega (arith, some)),
  λ j d from lt. (let below = rising 0 (suc j) d (omega arith) (omega (arith, lt)) in below),
)

pub merging_starts : (spans rest : List Span) (s : Span) → spans ≡ s ∷ rest → AreRising spans
    → IsMerging spans rest 0 [] s
merging_starts spans rest s is rising =
    subst (λ all. IsMerging all rest 0 [] s) (sym is) (starts s rest (subst AreRising is rising))

at_place : (rest : List Span) (k : ℕ) (d : Span) (i : ℕ) → k < length rest
    → any_contains (drop k rest) i ≡ (contains (get_or rest k d) i || any_contains (drop (k + 1) rest) i)
unfolding any_contains
at_place rest k d i lt = ap (λ all. any_contains all i) (drop_more rest k d lt)

with_one : (spans : List Span) (s : Span) (i : ℕ) → any_contains (spans ++ s ∷ []) i ≡ (any_contains spans i || contains s i)
unfolding any_contains
with_one spans s i =
    list_any-append (λ t. contains t i) spans (s ∷ []) ∙ ap (λ b. any_contains spans i || b) (or_false (contains s i))

pub merging_is_rising : (spans rest merged : List Span) (k : ℕ) (current d : Span) → k < length rest
    → IsMerging spans rest k merged current → current.first ≤ (get_or rest k d).first
unfolding IsMerging
merging_is_rising spans rest merged k current d lt so_far = so_far.3 k d (omega arith) lt

pub merging_joins : (spans rest merged : List Span) (k : ℕ) (current joined next : Span) → k < length rest
    → next ≡ get_or rest k next → joined.first ≡ current.first
    → ((i : ℕ) → contains joined i ≡ (contains current i || contains next i))
    → IsMerging spans rest k merged current → IsMerging spans rest (k + 1) merged joined
unfolding IsMerging
merging_joins spans rest merged k current joined next lt is first both so_far = (
  λ i. ap (λ b. (any_contains merged i || b) || any_contains (drop (k + 1) rest) i) (both i)
      ∙ shuffled (any_contains merged i) (contains current i) (contains next i) (any_contains (drop (k + 1) rest) i)
      ∙ ap (λ b. (any_contains merged i || contains current i) || b)
      (ap (λ s. contains s i || any_contains (drop (k + 1) rest) i) is ∙ sym (at_place rest k next i lt))
      ∙ so_far.0 i,
  so_far.1,
  λ d some. rw first (so_far.2 d some),
  λ j d from inside. rw first (so_far.3 j d (omega (arith, from)) inside),
)
  where
    shuffled : (a b c d : Bool) → ((a || (b || c)) || d) ≡ ((a || b) || (c || d))
    shuffled true b c d = refl
    shuffled false true c d = refl
    shuffled false false c d = refl

pub rising_with : (merged : List Span) (current : Span) → AreRising merged
    → ((d : Span) → 0 < length merged → (get_or merged (length merged - 1) d).first ≤ current.first)
    → AreRising (merged ++ current ∷ [])
rising_with merged current rising last = IsNonDecreasingBy-push (λ s. s.first) merged current rising last

pub merging_goes_on : (spans rest merged : List Span) (k : ℕ) (current next : Span) → AreRising rest → k < length rest
    → next ≡ get_or rest k next → IsMerging spans rest k merged current
    → IsMerging spans rest (k + 1) (merged ++ current ∷ []) next
unfolding IsMerging
merging_goes_on spans rest merged k current next rising lt is so_far = (
  λ i. ap (λ b. (b || contains next i) || any_contains (drop (k + 1) rest) i) (with_one merged current i)
      ∙ sym (or_assoc (any_contains merged i || contains current i) (contains next i)
      (any_contains (drop (k + 1) rest) i))
      ∙ ap (λ b. (any_contains merged i || contains current i) || b)
      (ap (λ s. contains s i || any_contains (drop (k + 1) rest) i) is ∙ sym (at_place rest k next i lt))
      ∙ so_far.0 i,
  rising_with merged current so_far.1 so_far.2,
  λ d some. rw (length_push merged current, get_or_push merged current d (length merged + 1 - 1) (omega arith))
      (subst (λ s. current.first ≤ s.first) (sym is) (so_far.3 k next (omega arith) lt)),
  λ j d from inside. subst (λ s. s.first ≤ (get_or rest j d).first)
      (sym (is ∙ get_or_default rest k next d lt)) (rising k j d (omega (arith, from)) inside),
)

pub merging_ends : (spans rest merged : List Span) (k : ℕ) (current : Span) → length rest ≤ k
    → IsMerging spans rest k merged current
    → SelectAlike spans (merged ++ current ∷ []) × AreRising (merged ++ current ∷ [])
unfolding any_contains IsMerging
merging_ends spans rest merged k current past so_far = (
  λ i. sym (with_one merged current i
      ∙ sym (or_false (any_contains merged i || contains current i))
      ∙ ap (λ all. (any_contains merged i || contains current i) || any_contains all i) (sym (drop_all k rest past))
      ∙ so_far.0 i),
  rising_with merged current so_far.1 so_far.2,
)
