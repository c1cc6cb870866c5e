-- The first name of a path, by the text.
use Rattle.std.proofs.Common.{◌≡◌, ◌≢◌, ℕ, ◌<◌, true, List, [], ◌∷◌, ◌++◌, length, take, drop, get_or, Some, None}
use Rattle.std.proofs.Common.{refl, sym, ap, subst, ◌∙◌, arith}
use Rattle.std.proofs.lemmas.List.{append-nil, take-append-drop, get_or-take, drop_more, length-take}
use Rattle.retro_path.specs.Name.{AllNames}
use Rattle.retro_path.specs.Path.{PathValue, only_name}
use Rattle.retro_path.specs.Slashed.{slashed}
use Rattle.retro_path.specs.inner.PathText.{names_in, IsPathText, at_slash}
use Rattle.retro_path.proofs.Slashes.{IsFree, name_is_free, and_first, and_last, names_of_text, text_of_names}
use Rattle.retro_path.proofs.Slashes.{free_from_places, place_is_free, slash_test}
use Rattle.retro_path.proofs.StripPrefix.{same_front, slashed_at_slash}

first_is : (ns : PathValue) (name rest : List ℕ) → AllNames ns → IsFree name → at_slash rest ≡ true
    → slashed ns ≡ 47 ∷ (name ++ rest) → (ms : PathValue) × (ns ≡ name ∷ ms) × (rest ≡ slashed ms) × AllNames ms
first_is [] name rest h k s e = cc
first_is (n ∷ ms) name rest h k s e =
    let tails : n ++ slashed ms ≡ name ++ rest = cc in
    let both = same_front n name (slashed ms) rest (name_is_free n (and_first _ _ h)) k (slashed_at_slash ms) s tails in
    (ms, (λ i. both.0 i ∷ ms), sym both.1, and_last _ _ h)

-- a text without a first slash has no names
pub no_first : (text : List ℕ) → IsPathText text → ((rest : List ℕ) → text ≢ 47 ∷ rest) → names_in text ≡ []
no_first text h none = go (names_in text) h.text_is
  where
    go : (ns : PathValue) → text ≡ slashed ns → ns ≡ []
    go [] e = refl
    go (n ∷ ns) e = absurd (none (n ++ slashed ns) e)

-- the first name ends at the next slash or with the text
pub first_name : (text name rest : List ℕ) → IsPathText text → IsFree name → at_slash rest ≡ true
    → text ≡ 47 ∷ (name ++ rest) → (names_in text ≡ name ∷ names_in rest) × IsPathText rest
first_name text name rest h k s e =
    let first = first_is (names_in text) name rest h.names k s (sym h.text_is ∙ e) in
    let ms = first.0 in (
      first.1 ∙ ap (λ r. name ∷ r) (sym (names_of_text rest ms first.3 first.2)),
      text_of_names rest ms first.3 first.2,
    )

pub only_first : (text name : List ℕ) → IsPathText text → IsFree name → text ≡ 47 ∷ name → names_in text ≡ name ∷ []
only_first text name h k e =
    let first = first_is (names_in text) name [] h.names k refl (sym h.text_is ∙ e ∙ ap (λ t. 47 ∷ t) (sym (append-nil name))) in
    first.1 ∙ ap (λ r. name ∷ r) (no_more first.0 first.2)
  where
    no_more : (ms : PathValue) → [] ≡ slashed ms → ms ≡ []
    no_more [] e = refl
    no_more (m ∷ ms) e = cc

-- a slash after the first name comes before another name
pub several : (text rest : List ℕ) (i : ℕ) → IsPathText text → text ≡ 47 ∷ rest → get_or rest i 0 ≡ 47
    → only_name (Some (names_in text)) ≡ None
several text rest i h e here = go (names_in text) h.names (sym h.text_is ∙ e)
  where
    go : (ns : PathValue) → AllNames ns → slashed ns ≡ 47 ∷ rest → only_name (Some ns) ≡ None
    go [] all s = refl
    go (n ∷ m ∷ ns) all s = refl
    go (n ∷ []) all s =
        let same : n ++ [] ≡ rest = cc in
        absurd (place_is_free n i (name_is_free n (and_first _ _ all))
        (ap (λ t. get_or t i 0) (sym (append-nil n) ∙ same) ∙ here))

-- the first name, by the place of the next slash
pub name_before : (text after name rest : List ℕ) (i : ℕ) → IsPathText text → text ≡ 47 ∷ after → i < length after
    → get_or after i 0 ≡ 47 → ((k : ℕ) → k < i → get_or after k 0 ≢ 47) → name ≡ take i after → rest ≡ drop i after
    → (names_in text ≡ name ∷ names_in rest) × IsPathText rest
name_before text after name rest i h e l here first is more =
    let free : IsFree (take i after) = free_from_places (take i after) (λ k m.
    let low : k < i = omega (arith, length-take i after) in
    λ same. first k low (sym (get_or-take i after k 0 low) ∙ same)) in
    let slash : at_slash (drop i after) ≡ true = ap at_slash (drop_more after i 0 l) ∙ slash_test _ here in
    first_name text name rest h (subst IsFree (sym is) free) (ap at_slash more ∙ slash)
    (e ∙ ap (λ t. 47 ∷ t) (sym (take-append-drop i after) ∙ (λ k. sym is k ++ sym more k)))
