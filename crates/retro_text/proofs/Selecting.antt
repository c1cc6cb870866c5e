-- Selecting items by their indices, item by item.
use Rattle.std.proofs.Common.{◌≡◌, ℕ, ◌+◌, ◌<◌, ◌≤◌, Bool, true, false, List, [], ◌∷◌, ◌++◌, length, get_or, drop, refl}
use Rattle.std.proofs.Common.{sym, ap, ◌∙◌}
use Rattle.std.proofs.lemmas.List.{drop_more, drop_all, append-nil, append_assoc}
use Rattle.retro_text.specs.declared.span.Span.{Span}
use Rattle.retro_text.specs.Spans.{any_contains}
use Rattle.retro_text.specs.Cut.{selected_from}
use Rattle.retro_text.specs.inner.Rising.{SelectAlike}

pub none_left : {X : Type 0} (spans : List Span) (index : ℕ) → selected_from {X = X} index spans [] ≡ []
unfolding selected_from
none_left spans index = refl

pub one_selected : {X : Type 0} (spans : List Span) (index : ℕ) (x : X) (xs : List X) → any_contains spans index ≡ true
    → selected_from index spans (x ∷ xs) ≡ x ∷ selected_from (index + 1) spans xs
unfolding selected_from
one_selected spans index x xs h = rw h refl

pub one_skipped : {X : Type 0} (spans : List Span) (index : ℕ) (x : X) (xs : List X) → any_contains spans index ≡ false
    → selected_from index spans (x ∷ xs) ≡ selected_from (index + 1) spans xs
unfolding selected_from
one_skipped spans index x xs h = rw h refl

-- the step of a loop over bytes
pub byte_selected : (out : List ℕ) (spans : List Span) (line : List ℕ) (i : ℕ) (d : ℕ) → i < length line
    → any_contains spans i ≡ true
    → (out ++ get_or line i d ∷ []) ++ selected_from (i + 1) spans (drop (i + 1) line)
    ≡ out ++ selected_from i spans (drop i line)
byte_selected out spans line i d inside h =
    rw (drop_more line i d inside, one_selected spans i (get_or line i d) (drop (i + 1) line) h)
    (append_assoc out (get_or line i d ∷ []) (selected_from (i + 1) spans (drop (i + 1) line)))

pub byte_skipped : (out : List ℕ) (spans : List Span) (line : List ℕ) (i : ℕ) → i < length line
    → any_contains spans i ≡ false
    → out ++ selected_from (i + 1) spans (drop (i + 1) line) ≡ out ++ selected_from i spans (drop i line)
byte_skipped out spans line i inside h =
    rw (drop_more line i 0 inside, one_skipped spans i (get_or line i 0) (drop (i + 1) line) h) refl

bytes_done : (spans : List Span) (line : List ℕ) (i : ℕ) → length line ≤ i → selected_from i spans (drop i line) ≡ []
bytes_done spans line i past = ap (selected_from i spans) (drop_all i line past) ∙ none_left spans i

pub ruleset selects = (byte_selected, byte_skipped)

pub bytes_end : (out total : List ℕ) (spans : List Span) (line : List ℕ) (i : ℕ) → length line ≤ i
    → out ++ selected_from i spans (drop i line) ≡ total → out ≡ total
bytes_end out total spans line i past so_far =
    sym (append-nil out) ∙ ap (λ rest. out ++ rest) (sym (bytes_done spans line i past)) ∙ so_far

-- lists of spans that have the same indices select the same items
pub alike_selects : {X : Type 0} (one two : List Span) → SelectAlike one two → (index : ℕ) (items : List X)
    → selected_from index one items ≡ selected_from index two items
alike_selects one two alike index [] = none_left one index ∙ sym (none_left two index)
alike_selects one two alike index (x ∷ xs) =
    go (alike_selects one two alike (index + 1) xs) (any_contains one index) refl
  where
    go : selected_from (index + 1) one xs ≡ selected_from (index + 1) two xs → (b : Bool) → any_contains one index ≡ b
        → selected_from index one (x ∷ xs) ≡ selected_from index two (x ∷ xs)
    go more true h =
        one_selected one index x xs h ∙ ap (λ rest. x ∷ rest) more
        ∙ sym (one_selected two index x xs (sym (alike index) ∙ h))
    go more false h =
        one_skipped one index x xs h ∙ more ∙ sym (one_skipped two index x xs (sym (alike index) ∙ h))
