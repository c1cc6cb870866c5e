-- Paths above the password file.
use Rattle.std.proofs.Common.{◌≡◌, true, false, refl, ap, ◌∙◌, [], ◌∷◌, Option, Some, None}
use Rattle.std.specs.Prelude.{Bool, ◌&&◌, ◌||◌, if◌then◌else◌, is_some, codes}
use Rattle.std.specs.Cmp.Lexicographic.{nat_list_eq_equiv}
use Rattle.retro_tree.specs.Order.{path_eq, text_eq}
use Rattle.retro_tree.specs.Path.{PathValue, below, is_root, only_name, passwd}
use Rattle.casebook_view.specs.inner.Names.{is_etc}

one_name : (b t : Bool) → is_some (if b then Some (codes "passwd" ∷ []) else None) ≡ (false || ((t && false) || b))
one_name true true = refl
one_name true false = refl
one_name false true = refl
one_name false false = refl

two_names : (left : PathValue) (b t : Bool) → is_some (if b then (if t then Some left else None) else None) ≡ (false || ((b && (t && true)) || false))
two_names left true true = refl
two_names left true false = refl
two_names left false true = refl
two_names left false false = refl

none_left : (o : Option PathValue) → is_some o ≡ false → (a b : Bool) → is_some (if a then (if b then o else o) else o) ≡ false
none_left o none true true = none
none_left o none true false = none
none_left o none false b = none

no_names : (t u : Bool) → false ≡ (false || ((t && (u && false)) || false))
no_names true true = refl
no_names true false = refl
no_names false u = refl

-- whether a path is above the password file
pub above_tested : (p : PathValue) → is_some (below p passwd) ≡ (is_root p || (path_eq passwd p || is_etc (only_name (Some p))))
unfolding passwd
above_tested [] = refl
above_tested (x ∷ []) = one_name (text_eq x (codes "etc")) (text_eq (codes "etc") x)
above_tested (x ∷ y ∷ []) =
    two_names [] (text_eq x (codes "etc")) (text_eq y (codes "passwd"))
    ∙ ap (λ b. false || ((b && (text_eq y (codes "passwd") && true)) || false)) (nat_list_eq_equiv.symm x (codes "etc"))
    ∙ ap (λ t. false || ((text_eq (codes "etc") x && (t && true)) || false)) (nat_list_eq_equiv.symm y (codes "passwd"))
above_tested (x ∷ y ∷ z ∷ p) =
    none_left None refl (text_eq x (codes "etc")) (text_eq y (codes "passwd"))
    ∙ no_names (text_eq (codes "etc") x) (text_eq (codes "passwd") y)
