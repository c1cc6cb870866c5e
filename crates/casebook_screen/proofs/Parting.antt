-- Lines that are made of parts, one part after another.
use Rattle.std.proofs.Common.{◌≡◌, ℕ, ◌+◌, ◌<◌, ◌≤◌, List, [], ◌∷◌, ◌++◌, append_assoc, drop, get_or, length, map, refl, subst, sym}
use Rattle.std.proofs.lemmas.List.{append-nil, drop_all, drop_more}
use Rattle.casebook_summary.specs.declared.restoration.Restoration.{Restoration}
use Rattle.retro_tree.specs.Tree.{Tree}
use Rattle.casebook_screen.specs.Diffs.{AreParts, IsPathDiff}

module _ {A : Type 0} (P : A → List (List ℕ) → Type 0) (xs : List A) where
  -- one more part
  pub parts_next : (i : ℕ) (d : A) (lines part : List (List ℕ)) → i < length xs → P (get_or xs i d) part
      → ((rest : List (List ℕ)) → AreParts P (drop i xs) rest → AreParts P xs (lines ++ rest))
      → (rest : List (List ℕ)) → AreParts P (drop (i + 1) xs) rest → AreParts P xs ((lines ++ part) ++ rest)
  parts_next i d lines part lt holds so_far rest after =
      subst (AreParts P xs) (sym (append_assoc lines part rest))
      (so_far (part ++ rest) (subst (λ t. AreParts P t (part ++ rest)) (sym (drop_more xs i d lt))
      (part, rest, holds, after, refl)))

  pub parts_more : (i : ℕ) (x : A) (lines part : List (List ℕ)) → i < length xs → x ≡ get_or xs i x → P x part
      → ((rest : List (List ℕ)) → AreParts P (drop i xs) rest → AreParts P xs (lines ++ rest))
      → (rest : List (List ℕ)) → AreParts P (drop (i + 1) xs) rest → AreParts P xs ((lines ++ part) ++ rest)
  parts_more i x lines part lt at holds = parts_next i x lines part lt (subst (λ y. P y part) at holds)

  -- no part is left
  pub parts_all : (i : ℕ) (lines : List (List ℕ)) → length xs ≤ i
      → ((rest : List (List ℕ)) → AreParts P (drop i xs) rest → AreParts P xs (lines ++ rest)) → AreParts P xs lines
  parts_all i lines le so_far =
      subst (AreParts P xs) (append-nil lines)
      (so_far [] (subst (λ t. AreParts P t []) (sym (drop_all i xs le)) refl))

-- the parts of some items are those of what the items are seen as
pub parts_map : {A B : Type 0} (f : A → B) (P : B → List (List ℕ) → Type 0) (xs : List A) (lines : List (List ℕ))
    → AreParts (λ x. P (f x)) xs lines → AreParts P (map f xs) lines
parts_map f P [] lines are = are
parts_map f P (x ∷ xs) lines are = (are.0, are.1, are.2, parts_map f P xs are.1 are.3, are.4)

-- the diffs of paths in two trees are those in equal trees
pub same_trees : (before after old new : Tree) (restorations : List Restoration) (lines : List (List ℕ))
    → before ≡ old → after ≡ new
    → AreParts (λ (x : Restoration). IsPathDiff before after x.path) restorations lines
    → AreParts (λ (x : Restoration). IsPathDiff old new x.path) restorations lines
same_trees before after old new restorations lines first second are =
    subst (λ t. AreParts (λ (x : Restoration). IsPathDiff t new x.path) restorations lines) first
    (subst (λ t. AreParts (λ (x : Restoration). IsPathDiff before t x.path) restorations lines) second are)
