-- One more line of a recording.
use Rattle.std.proofs.Common.{◌≡◌, ◌∙◌, ◌+◌, ◌<◌, ◌||◌, ap, refl, sym, ℕ, Bool, true, false, List, [], ◌∷◌, ◌++◌, drop, get_or, length, take}
use Rattle.std.specs.FinMap as finmap
use Rattle.std.specs.List.{list_any}
use Rattle.std.proofs.lemmas.List.{append_assoc, drop_more, take_more}
use Rattle.std.proofs.lemmas.List.Folds.{list_any-append}
use mathlib.Core.Path.{fun_ext}
use Rattle.retro_tree.specs.Session.{session_in}
use Rattle.retro_tree.specs.declared.state.State.{State}
use Rattle.retro_keep.specs.declared.noted.Noted.{Noted}
use Rattle.casebook_profile.specs.Lines.{text_obstacle}
use Rattle.casebook_profile.specs.UnknownLines.{is_set, line_sets, scope_after, unknown_after, unknown_if}
use Rattle.casebook_profile.specs.declared.unknown_line.UnknownLine.{UnknownLine}
use Rattle.casebook_profile.proofs.KnowledgeLemmas.{or_assoc}

without_false : (b : Bool) → (b || false) ≡ b
without_false true = refl
without_false false = refl

module _ (first : State) (xs : List (ℕ × Noted)) (i : ℕ) (x : ℕ × Noted) (below : i < length xs) (is : x ≡ get_or xs i x)
  where
    taken : take (i + 1) xs ≡ take i xs ++ x ∷ []
    taken = take_more xs i x below ∙ ap (λ y. take i xs ++ y ∷ []) (sym is)

    dropped : drop i xs ≡ x ∷ drop (i + 1) xs
    dropped = drop_more xs i x below ∙ ap (λ y. y ∷ drop (i + 1) xs) (sym is)

    any_more : (f : ℕ × Noted → Bool) → list_any f (take (i + 1) xs) ≡ (list_any f (take i xs) || f x)
    any_more f =
        ap (list_any f) taken ∙ list_any-append f (take i xs) (x ∷ [])
        ∙ ap (λ b. list_any f (take i xs) || b) (without_false (f x))

    pub more_known : (old new : ℕ → List ℕ → Bool)
        → ((q : ℕ) (m : List ℕ) → old q m ≡ is_set first (take i xs) q m)
        → ((q : ℕ) (m : List ℕ) → new q m ≡ (old q m || line_sets q m x))
        → (q : ℕ) (m : List ℕ) → new q m ≡ is_set first (take (i + 1) xs) q m
    more_known old new was learns q m =
        let first_has = finmap.contains_key (session_in q first.sessions).vars m in
        learns q m ∙ ap (λ b. b || line_sets q m x) (was q m)
        ∙ sym (or_assoc first_has (list_any (line_sets q m) (take i xs)) (line_sets q m x))
        ∙ ap (λ b. first_has || b) (sym (any_more (line_sets q m)))

    pub more_found : (known : ℕ → List ℕ → Bool)
        → ((q : ℕ) (m : List ℕ) → known q m ≡ is_set first (take i xs) q m)
        → (old new all : List UnknownLine)
        → old ++ unknown_after first (take i xs) (drop i xs) ≡ all
        → new ≡ old ++ unknown_if x.0 (text_obstacle (record { before = known x.1.sid; set = []; loops = [] }) x.1.text)
        → new ++ unknown_after first (take (i + 1) xs) (drop (i + 1) xs) ≡ all
    more_found known was old new all so_far adds =
        let rest = unknown_after first (take (i + 1) xs) (drop (i + 1) xs) in
        let one = unknown_if x.0 (text_obstacle (record { before = known x.1.sid; set = []; loops = [] }) x.1.text) in
        ap (λ n. n ++ rest) adds ∙ append_assoc old one rest
        ∙ ap (λ (f : List ℕ → Bool). old
        ++ (unknown_if x.0 (text_obstacle (record { before = f; set = []; loops = [] }) x.1.text) ++ rest))
        (fun_ext (λ m. was x.1.sid m))
        ∙ ap (λ t. old
        ++ (unknown_if x.0 (text_obstacle (scope_after first (take i xs) x.1.sid) x.1.text)
        ++ unknown_after first t (drop (i + 1) xs))) taken
        ∙ ap (λ t. old ++ unknown_after first (take i xs) t) (sym dropped)
        ∙ so_far
