-- Parts of texts.
use Rattle.std.specs.Prelude.{ℕ, ◌+◌, ◌==◌, Bool, List, [], ◌∷◌, take, drop, position}
use Rattle.std.specs.Prelude.{Option, Some, None, option_map, if◌then◌else◌}

-- the texts before and after the first such byte, if there is one
unfoldable pub cut_at : ℕ → List ℕ → Option (List ℕ × List ℕ)
cut_at separator text =
    option_map (λ n. (take n text, drop (n + 1) text)) (position (λ b. b == separator) text)

-- what follows a text that another one begins with
unfoldable pub after : List ℕ → List ℕ → Option (List ℕ)
after [] text = Some text
after (p ∷ front) [] = None
after (p ∷ front) (b ∷ text) = if b == p then after front text else None

-- what follows the bytes at the front that pass a test
unfoldable pub after_all : (ℕ → Bool) → List ℕ → List ℕ
after_all test [] = []
after_all test (b ∷ rest) = if test b then after_all test rest else b ∷ rest

-- the same, if there is one such byte at least
unfoldable pub after_some : (ℕ → Bool) → List ℕ → Option (List ℕ)
after_some test [] = None
after_some test (b ∷ rest) = if test b then Some (after_all test rest) else None
