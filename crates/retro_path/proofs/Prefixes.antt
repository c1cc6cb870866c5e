-- The prefixes of a path, as the code collects them.
use Rattle.std.proofs.Common.{◌≡◌, ℕ, List, [], ◌∷◌, ◌++◌, map, refl, ap, ◌∙◌}
use Rattle.retro_path.specs.Path.{PathValue, prefixes_of}

map_append : (f : PathValue → PathValue) (xs ys : List PathValue) → map f (xs ++ ys) ≡ map f xs ++ map f ys
map_append f [] ys = refl
map_append f (x ∷ xs) ys = ap (λ zs. f x ∷ zs) (map_append f xs ys)

-- one name more gives one prefix more: the whole path
pub prefixes_of_child : (path : PathValue) (name : List ℕ) → prefixes_of (path ++ name ∷ []) ≡ prefixes_of path
    ++ (path ++ name ∷ []) ∷ []
prefixes_of_child [] name = refl
prefixes_of_child (first ∷ rest) name =
    ap (λ ps. (first ∷ []) ∷ map (λ p. first ∷ p) ps) (prefixes_of_child rest name)
    ∙ ap (λ ps. (first ∷ []) ∷ ps) (map_append (λ p. first ∷ p) (prefixes_of rest) ((rest ++ name ∷ []) ∷ []))

-- the prefixes collected so far, and one more
pub one_more : (old new : List PathValue) (path next copy : PathValue) (name : List ℕ) → next ≡ path ++ name ∷ []
    → copy ≡ next → old ≡ prefixes_of path → new ≡ old ++ copy ∷ [] → new ≡ prefixes_of next
one_more old new path next copy name a b c d = let more = prefixes_of_child path name in cc
