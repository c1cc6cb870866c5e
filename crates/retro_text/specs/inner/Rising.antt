-- Spans in the order of their first indices, and what is known of them up to an index.
use Rattle.std.specs.Prelude.{◌≡◌, ℕ, ◌≤◌, ◌||◌, Bool, false, List, Option, Some, None}
use Rattle.std.specs.List.Sorted.{IsNonDecreasingBy}
use Rattle.retro_text.specs.Spans.{any_contains, is_up_to}
use Rattle.retro_text.specs.declared.span.Span.{Span}
use Rattle.retro_text.specs.declared.cut.Cut.{Cut}
use Rattle.retro_text.specs.declared.cut.Cut.TheVariants.{Bytes, Fields}

-- the first indices don't fall
abbrev pub AreRising : List Span → Type 0
AreRising spans = IsNonDecreasingBy (λ s. s.first) spans

-- the same indices are in a span of each of two lists
abbrev pub SelectAlike : List Span → List Span → Type 0
SelectAlike one two = (index : ℕ) → any_contains one index ≡ any_contains two index

-- the spans of what `cut` does, as they were written
abbrev pub spans_of : Cut → List Span
spans_of (Bytes spans) = spans
spans_of (Fields spans d only) = spans

-- whether there is a span and it doesn't end before an index
abbrev pub reaches : Option Span → ℕ → Bool
reaches None index = false
reaches (Some s) index = is_up_to s.last index

-- From an index on, a span has an index exactly if the span that reaches furthest among those that
-- have begun doesn't end before it, or one of the others has it. These others are rising.
unfoldable pub Covers : List Span → ℕ → Option Span → List Span → Type 0
Covers spans index furthest rest =
    ((i : ℕ) → index ≤ i → any_contains spans i ≡ (reaches furthest i || any_contains rest i)) × AreRising rest
