-- Joining the selected fields of a line, field by field.
use Rattle.std.proofs.Common.{◌≡◌, ℕ, ◌+◌, ◌<◌, ◌≤◌, Bool, true, false, List, [], ◌∷◌, ◌++◌, length, get_or, drop}
use Rattle.std.proofs.Common.{refl, sym, ap, ◌∙◌}
use Rattle.std.specs.List.{join_with_byte, enumerate_from}
use Rattle.std.proofs.lemmas.List.{drop_more, drop_all, append-nil, append_assoc}
use Rattle.std.proofs.lemmas.List.FromFn.{get_or-enumerate_from}
use Rattle.retro_text.specs.declared.span.Span.{Span}
use Rattle.retro_text.specs.Spans.{any_contains}
use Rattle.retro_text.specs.Cut.{selected_from, separated}
use Rattle.retro_text.proofs.Selecting.{none_left, one_selected, one_skipped}

-- the text of the fields that are left, the first of which may be the line's first
abbrev pub joined : ℕ → Bool → List (List ℕ) → List ℕ
joined d is_first [] = []
joined d is_first (field ∷ fields) = separated d is_first field ++ joined d false fields

pub joined_all : (d : ℕ) (fields : List (List ℕ)) → joined d true fields ≡ join_with_byte d fields
joined_all d [] = refl
joined_all d (field ∷ []) = append-nil field
joined_all d (field ∷ next ∷ fields) = ap (λ text. field ++ (d ∷ text)) (joined_all d (next ∷ fields))

-- the text of the selected fields among those from an index on
abbrev pub joined_from : ℕ → Bool → List Span → ℕ → List (List ℕ) → List ℕ
joined_from d is_first spans i fields = joined d is_first (selected_from i spans (drop i fields))

pub field_selected : (out : List ℕ) (d : ℕ) (is_first : Bool) (spans : List Span) (fields : List (List ℕ)) (i : ℕ)
    (field : List ℕ) → i < length fields → field ≡ get_or fields i field → any_contains spans i ≡ true
    → (out ++ separated d is_first field) ++ joined_from d false spans (i + 1) fields
    ≡ out ++ joined_from d is_first spans i fields
field_selected out d is_first spans fields i field inside is h =
    append_assoc out (separated d is_first field) (joined_from d false spans (i + 1) fields)
    ∙ ap (λ all. out ++ joined d is_first all)
    (sym (ap (selected_from i spans) (drop_more fields i field inside ∙ ap (λ f. f ∷ drop (i + 1) fields) (sym is))
    ∙ one_selected spans i field (drop (i + 1) fields) h))

pub field_skipped : (out : List ℕ) (d : ℕ) (is_first : Bool) (spans : List Span) (fields : List (List ℕ)) (i : ℕ)
    → i < length fields → any_contains spans i ≡ false
    → out ++ joined_from d is_first spans (i + 1) fields ≡ out ++ joined_from d is_first spans i fields
field_skipped out d is_first spans fields i inside h =
    ap (λ all. out ++ joined d is_first all)
    (sym (ap (selected_from i spans) (drop_more fields i [] inside)
    ∙ one_skipped spans i (get_or fields i []) (drop (i + 1) fields) h))

pub fields_end : (out total : List ℕ) (d : ℕ) (is_first : Bool) (spans : List Span) (fields : List (List ℕ)) (i : ℕ)
    → length fields ≤ i → out ++ joined_from d is_first spans i fields ≡ total → out ≡ total
fields_end out total d is_first spans fields i past so_far =
    sym (append-nil out)
    ∙ ap (λ all. out ++ joined d is_first all)
    (sym (ap (selected_from i spans) (drop_all i fields past) ∙ none_left spans i))
    ∙ so_far

-- an item of `enumerate`
pub enumerated : (fields : List (List ℕ)) (n k : ℕ) (item : ℕ × List ℕ) → k < length fields
    → item ≡ get_or (enumerate_from n fields) k item → (item.0 ≡ n + k) × (item.1 ≡ get_or fields k item.1)
enumerated fields n k item inside is =
    let found = is ∙ get_or-enumerate_from n fields k item inside in
    (ap (λ p. p.0) found, ap (λ p. p.1) found)
