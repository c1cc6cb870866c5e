-- Sets of names, as references to them.
use Rattle.std.proofs.Common.{◌≡◌, ◌∙◌, ◌||◌, ℕ, List, [], ◌∷◌, Some, cond, map, refl, sym, ap}
use Rattle.std.specs.Borrow.{Bor}
use Rattle.std.specs.BTreeMap.{is_at}
use Rattle.std.specs.BTreeSet.{BTreeSet}
use Rattle.std.specs.List.{find, list_any}
use Rattle.std.specs.Prelude.{not}
use Rattle.std.specs.Cmp.Lexicographic.{nat_list_eq_equiv}
use Rattle.retro_tree.specs.Order.{text_cmp, text_eq, text_ties}
use Rattle.casebook_words.specs.Difference.{first_lacking}
use Rattle.casebook_words.specs.inner.NameSets.{has_name}

at_name : (name other : List ℕ) → is_at (text_cmp name) other ≡ text_eq other name
at_name name other = sym (text_ties name other) ∙ nat_list_eq_equiv.symm name other

has_each : (name : List ℕ) (xs : List (Bor (List ℕ)))
    → has_name name xs ≡ list_any (λ other. text_eq other name) (map (λ x. x.now) xs)
has_each name [] = refl
has_each name (x ∷ xs) =
    ap (λ b. b || has_name name xs) (at_name name x.now)
    ∙ ap (λ b. text_eq x.now name || b) (has_each name xs)

-- the names of a set that was made of references
pub among : (xs : List (Bor (List ℕ))) (set : BTreeSet (Bor (List ℕ)))
    → ((q : Bor (List ℕ)) → has_name q.now set.keys ≡ has_name q.now xs) → (name : List ℕ)
    → has_name name set.keys ≡ list_any (λ other. text_eq other name) (map (λ x. x.now) xs)
among xs set is name = is (record { ref_ptr = (0, 0); now = name }) ∙ has_each name xs

-- the first name that a set of other names lacks
pub found_lacking : (names others : List (List ℕ)) (keys : List (Bor (List ℕ)))
    → ((name : List ℕ) → has_name name keys ≡ list_any (λ other. text_eq other name) others)
    → find (λ name. not (has_name name keys)) names ≡ first_lacking names others
found_lacking [] others keys is = refl
found_lacking (name ∷ names) others keys is =
    ap (λ b. cond (not b) (Some name) (find (λ name. not (has_name name keys)) names)) (is name)
    ∙ ap (λ o. cond (not (list_any (λ other. text_eq other name) others)) (Some name) o)
    (found_lacking names others keys is)
