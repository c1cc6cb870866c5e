-- Characters of a text that a shell reads in a way of its own.
use Rattle.std.specs.Prelude.{ℕ, Bool, false, not, ◌==◌, ◌&&◌, ◌||◌, List, [], ◌∷◌, codes}
use Rattle.std.specs.List.{list_any}

-- whether a set of characters has one
abbrev pub among : List ℕ → ℕ → Bool
among set c = list_any (λ d. d == c) set

-- whether a text has a character of a set
unfoldable pub has_any : List ℕ → List ℕ → Bool
has_any set text = list_any (among set) text

-- whether a text has a character that begins a pattern (XCU 2.13) or a brace expansion of bash
abbrev pub has_pattern : List ℕ → Bool
has_pattern text = has_any (codes "*?[{") text

abbrev pub begins_with : ℕ → List ℕ → Bool
begins_with c [] = false
begins_with c (d ∷ text) = d == c

-- Whether a tilde follows a `=` or a colon: bash expands it in any word that looks like an
-- assignment.
abbrev pub hides_tilde : List ℕ → Bool
hides_tilde [] = false
hides_tilde (c ∷ text) = (among (codes "=:") c && begins_with 126 text) || hides_tilde text

-- whether a text has a character that isn't in a set
unfoldable pub has_other : List ℕ → List ℕ → Bool
has_other set text = list_any (λ c. not (among set c)) text
