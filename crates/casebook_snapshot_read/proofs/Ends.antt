-- The last of some names, and those before it.
use Rattle.std.proofs.Common.{◌≡◌, ◌∙◌, ℕ, ◌-◌, ◌≤◌, List, [], ◌∷◌, Some, length, take, get_or, map, refl, sym, ap, ap₂, arith}
use Rattle.std.specs.Borrow.{Bor}
use Rattle.retro_path.specs.Path.{last_of, parent_of}
use Rattle.casebook_snapshot_read.specs.Paths.{child_by, child_named, child_of_names}

abbrev texts : List (Bor (List ℕ)) → List (List ℕ)
texts names = map (λ name. name.now) names

parents : (x : Bor (List ℕ)) (xs : List (Bor (List ℕ))) → parent_of (texts (x ∷ xs)) ≡ texts (take (length xs) (x ∷ xs))
parents x [] = refl
parents x (y ∷ ys) = ap (λ (ns : List (List ℕ)). x.now ∷ ns) (parents y ys)

lasts : (x : Bor (List ℕ)) (xs : List (Bor (List ℕ))) (d : Bor (List ℕ))
    → last_of (texts (x ∷ xs)) ≡ Some (get_or (x ∷ xs) (length xs) d).now
lasts x [] d = refl
lasts x (y ∷ ys) d = lasts y ys d

pub child_at_end : (names : List (Bor (List ℕ))) (d : Bor (List ℕ)) → 1 ≤ length names
    → child_named (map (λ name. name.now) (take (length names - 1) names)) (get_or names (length names - 1) d).now
    ≡ child_of_names (map (λ name. name.now) names)
child_at_end [] d some = absurd (omega arith)
child_at_end (x ∷ xs) d some =
    let less : length xs ≡ length (x ∷ xs) - 1 = omega arith in
    sym (ap₂ child_by (parents x xs ∙ ap (λ n. texts (take n (x ∷ xs))) less)
    (lasts x xs d ∙ ap (λ n. Some (get_or (x ∷ xs) n d).now) less))
