-- Spans in the order of their first indices: sorting, and what is known of them up to an index.
use Rattle.std.proofs.Common.{◌≡◌, ℕ, ◌+◌, ◌<◌, ◌≤◌, Bool, true, false, List, ◌∷◌, ◌||◌, ◌&&◌, get_or, refl}
use Rattle.std.proofs.Common.{length, sym, ap, ◌∙◌, arith, tests}
use Rattle.std.specs.Prelude.{nat_le, Option, None}
use Rattle.std.specs.List.Sorted.{IsPermutation}
use Rattle.std.proofs.lemmas.List.Sorted.{IsNonDecreasingBy-drop, list_any-IsPermutation}
use Rattle.std.proofs.lemmas.List.Folds.{list_any_none}
use Rattle.retro_text.specs.declared.span.Span.{Span}
use Rattle.retro_text.specs.Spans.{any_contains, contains, is_up_to}
use Rattle.retro_text.specs.inner.Rising.{AreRising, SelectAlike, Covers, reaches}

-- a list and its permutation have the same indices
pub sorted_alike : (one two : List Span) → IsPermutation one two → SelectAlike one two
unfolding any_contains
sorted_alike one two same index = list_any-IsPermutation (λ s. contains s index) one two same

pub or_assoc : (a b c : Bool) → (a || (b || c)) ≡ ((a || b) || c)
or_assoc true b c = refl
or_assoc false b c = refl

pub or_false : (a : Bool) → (a || false) ≡ a
or_false true = refl
or_false false = refl

pub and_true : (a b : Bool) → a ≡ true → (a && b) ≡ b
and_true a b h = rw h refl

and_false : (a b : Bool) → a ≡ false → (a && b) ≡ false
and_false a b h = rw h refl

pub begun : (s : Span) (i : ℕ) → s.first ≤ i → contains s i ≡ is_up_to s.last i
begun s i le = and_true (nat_le s.first i) (is_up_to s.last i) (grind (arith, tests))

pub later : (s : Span) (i : ℕ) → i < s.first → contains s i ≡ false
later s i lt = and_false (nat_le s.first i) (is_up_to s.last i) (grind (arith, tests))

-- at the start no span has begun
pub covers_all : (spans : List Span) → AreRising spans → Covers spans 0 None spans
unfolding Covers
covers_all spans rising = (λ i le. refl, rising)

-- the next span begins
pub next_begins : (spans rest : List Span) (index : ℕ) (furthest further : Option Span) (s : Span) → s.first ≤ index
    → ((i : ℕ) → reaches further i ≡ (reaches furthest i || is_up_to s.last i))
    → Covers spans index furthest (s ∷ rest) → Covers spans index further rest
unfolding Covers any_contains
next_begins spans rest index furthest further s le extends covered = (
  λ i from. covered.0 i from
      ∙ ap (λ b. reaches furthest i || (b || any_contains rest i)) (begun s i (omega (arith, le, from)))
      ∙ or_assoc (reaches furthest i) (is_up_to s.last i) (any_contains rest i)
      ∙ ap (λ b. b || any_contains rest i) (sym (extends i)),
  IsNonDecreasingBy-drop (λ t. t.first) 1 (s ∷ rest) covered.1,
)

-- none of the others has begun
none_begun : (rest : List Span) (index : ℕ) → AreRising rest
    → ((d : Span) → 0 < length rest → index < (get_or rest 0 d).first) → any_contains rest index ≡ false
unfolding any_contains
none_begun rest index rising first =
    list_any_none (λ s. contains s index) rest
    (λ k d inside. later (get_or rest k d) index
    (omega (arith, first d (omega (arith, inside)), rising 0 k d (omega arith) inside)))

pub decided : (spans rest : List Span) (index : ℕ) (furthest : Option Span)
    → ((d : Span) → 0 < length rest → index < (get_or rest 0 d).first) → Covers spans index furthest rest
    → reaches furthest index ≡ any_contains spans index
unfolding Covers
decided spans rest index furthest first covered =
    sym (covered.0 index (omega arith)
    ∙ ap (λ b. reaches furthest index || b) (none_begun rest index covered.1 first)
    ∙ or_false (reaches furthest index))

pub still_covered : (spans rest : List Span) (index : ℕ) (furthest : Option Span) → Covers spans index furthest rest
    → Covers spans (index + 1) furthest rest
unfolding Covers
still_covered spans rest index furthest covered = (λ i from. covered.0 i (omega (arith, from)), covered.1)
