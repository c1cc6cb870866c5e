-- The items of rows, found one after another.
use Rattle.std.proofs.Common.{◌≡◌, ℕ, ◌≤◌, true, refl, ap, ap₂, ◌∙◌, List}
use Rattle.std.proofs.Common.{length, take, take_all}
use Rattle.std.specs.Prelude.{Bool, Option}
use Rattle.std.specs.List.{filter_map}
use Rattle.std.proofs.lemmas.Bool.{and_parts}
use Rattle.retro_tree.specs.Order.{path_eq}
use Rattle.retro_tree.proofs.Sames.{paths_same}
use Rattle.casebook_view.specs.FirstOfEach.{first_of_each}
use Rattle.casebook_view.specs.NotePaths.{kind_eq, write_eq}
use Rattle.casebook_view.specs.declared.path_write.WriteKind.{WriteKind}
use Rattle.casebook_view.specs.declared.path_write.WriteKind.TheVariants.{Put, Append, Remove}
use Rattle.casebook_view.proofs.FirstLemmas.{IsExact}

pub path_exact : IsExact path_eq
path_exact x y same = (paths_same x y).0 same

kind_exact : (x y : WriteKind) → kind_eq x y ≡ true → x ≡ y
kind_exact Put Put same = refl
kind_exact Append Append same = refl
kind_exact Remove Remove same = refl
kind_exact _ _ same = cc

pub write_exact : IsExact write_eq
write_exact x y same =
    let both = and_parts (kind_eq x.kind y.kind) (path_eq x.path y.path) same in
    ap₂ (λ k p. record { kind = k; path = p }) (kind_exact x.kind y.kind both.0) (path_exact x.path y.path both.1)

-- all elements are passed over
pub all_found : {A B : Type 0} (eq : A → A → Bool) (f : B → Option A) (found : List A) (xs : List B) (i : ℕ) → length xs ≤ i
    → found ≡ first_of_each eq (filter_map f (take i xs)) → found ≡ first_of_each eq (filter_map f xs)
all_found eq f found xs i le so_far = so_far ∙ ap (λ t. first_of_each eq (filter_map f t)) (take_all i xs le)
