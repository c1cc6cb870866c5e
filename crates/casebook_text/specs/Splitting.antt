-- Texts that are split at a byte.
use Rattle.std.specs.Prelude.{ℕ, ◌==◌, List, length, nat_lt, if◌then◌else◌, Option, Some, None}
use Rattle.std.specs.List.{before_first, after_first, position_or_len}

-- what comes before and after the first byte c, or None if there is none
unfoldable pub cut_at : ℕ → List ℕ → Option (List ℕ × List ℕ)
cut_at c text =
    if nat_lt (position_or_len (λ b. b == c) text) (length text)
    then Some (before_first (λ b. b == c) text, after_first (λ b. b == c) text) else None
