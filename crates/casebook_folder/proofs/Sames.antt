-- What is found to be the same is the same.
use Rattle.std.proofs.Common.{◌≡◌, ℕ, true, false, ◌&&◌, nat_eq, refl, ap, ◌∙◌}
use Rattle.std.proofs.lemmas.Bool.{false≢true, eqb-true}
use Rattle.retro_path.specs.Order.{text_eq}
use Rattle.casebook_folder.specs.Found.{found_eq, attributes_eq}
use Rattle.casebook_folder.specs.declared.attributes.Attributes.{Attributes}
use Rattle.casebook_folder.specs.declared.found.Found.{Found}
use Rattle.casebook_folder.specs.declared.found.Found.TheVariants.{Missing, Dir, File, Blocked}
use Rattle.casebook_folder.proofs.Small.{first_and, last_and, same_text}

attributes_of : ℕ → ℕ → ℕ → Attributes
attributes_of m o g = record { mode = m; uid = o; gid = g }

same_attributes : (a b : Attributes) → attributes_eq a b ≡ true → a ≡ b
unfolding attributes_of
same_attributes a b e =
    let two = first_and (nat_eq a.mode b.mode && nat_eq a.uid b.uid) (nat_eq a.gid b.gid) e in
    ap (λ m. attributes_of m a.uid a.gid) (eqb-true a.mode b.mode (first_and (nat_eq a.mode b.mode) (nat_eq a.uid b.uid) two))
    ∙ ap (λ o. attributes_of b.mode o a.gid) (eqb-true a.uid b.uid (last_and (nat_eq a.mode b.mode) (nat_eq a.uid b.uid) two))
    ∙ ap (λ g. attributes_of b.mode b.uid g) (eqb-true a.gid b.gid (last_and (nat_eq a.mode b.mode && nat_eq a.uid b.uid) (nat_eq a.gid b.gid) e))

pub found_same : (x y : Found) → found_eq x y ≡ true → x ≡ y
found_same Missing Missing e = refl
found_same Missing (Dir b) e = absurd (false≢true e)
found_same Missing (File y b) e = absurd (false≢true e)
found_same Missing (Blocked o) e = absurd (false≢true e)
found_same (Dir a) Missing e = absurd (false≢true e)
found_same (Dir a) (Dir b) e = ap Dir (same_attributes a b e)
found_same (Dir a) (File y b) e = absurd (false≢true e)
found_same (Dir a) (Blocked o) e = absurd (false≢true e)
found_same (File x a) Missing e = absurd (false≢true e)
found_same (File x a) (Dir b) e = absurd (false≢true e)
found_same (File x a) (File y b) e =
    ap (λ z. File z a) (same_text x y (first_and (text_eq x y) (attributes_eq a b) e))
    ∙ ap (λ c. File y c) (same_attributes a b (last_and (text_eq x y) (attributes_eq a b) e))
found_same (File x a) (Blocked o) e = absurd (false≢true e)
found_same (Blocked o) y e = absurd (false≢true e)
