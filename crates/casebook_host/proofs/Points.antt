-- Whether a point covers a path, by what follows the point in the path's text.
use Rattle.std.proofs.Common.{◌≡◌, ◌≢◌, ◌∙◌, ℕ, Bool, true, false, List, [], ◌∷◌, ◌++◌}
use Rattle.std.proofs.Common.{drop, length, refl, sym, ap, append_assoc, append-nil, nat_eq}
use Rattle.std.proofs.Common.{get_or, arith}
use Rattle.std.specs.Prelude.{◌||◌, ◌&&◌, ◌==◌, codes}
use Rattle.std.specs.List.{starts_with}
use Rattle.std.proofs.lemmas.Bool.{eq-eqb, eqb-true, false_from_ne_true}
use Rattle.std.proofs.lemmas.Bool.Decides.{Decides-eqb}
use Rattle.std.proofs.lemmas.Cmp.{nat_eq_equiv}
use Rattle.std.proofs.lemmas.Slice.Eq.{bytes_eq-Decides, starts_is}
use Rattle.retro_path.specs.Ascii.{slash}
use Rattle.retro_path.specs.Order.{text_eq}
use Rattle.retro_path.specs.Path.{PathValue}
use Rattle.retro_path.specs.Slashed.{slashed}
use Rattle.casebook_host.specs.Mounts.{covers}

-- whether a text is a point, or begins with it and a slash
abbrev pub is_below : List ℕ → List ℕ → Bool
is_below text point = text_eq text point || starts_with nat_eq text (point ++ slash ∷ [])

-- whether a text is empty or begins with a slash
abbrev pub at_slash : List ℕ → Bool
at_slash [] = true
at_slash (b ∷ rest) = b == slash

and_true : (b : Bool) → (b && true) ≡ b
and_true true = refl
and_true false = refl

after_point : (point rest : List ℕ) → is_below (point ++ rest) point ≡ at_slash rest
after_point [] [] = refl
after_point [] (b ∷ rest) = and_true (nat_eq slash b) ∙ nat_eq_equiv.symm slash b
after_point (p ∷ point) rest = rw (eq-eqb p p refl) (after_point point rest)

-- a text that doesn't begin with a point isn't below it
not_below : (text point : List ℕ) → ((rest : List ℕ) → text ≢ point ++ rest)
    → is_below text point ≡ false
not_below text point other =
    let end = point ++ slash ∷ [] in
    let rest = drop (length end) text in
    let differs = false_from_ne_true (text_eq text point)
    (λ e. other [] ((bytes_eq-Decides text point).0 e ∙ sym (append-nil point))) in
    let ends = false_from_ne_true (starts_with nat_eq text end)
    (λ e. other (slash ∷ rest)
    ((starts_is Decides-eqb text end _ refl).0 e ∙ append_assoc point (slash ∷ []) rest)) in
    rw (differs, ends) refl

-- the root covers each path
pub covers_root : (path : PathValue) (point : List ℕ) → text_eq point (codes "/") ≡ true
    → covers path point ≡ true
unfolding covers
covers_root path point root = rw root refl

covers_by_text : (path : PathValue) (point : List ℕ) → text_eq point (codes "/") ≡ false
    → covers path point ≡ is_below (slashed path) point
unfolding covers
covers_by_text path point other = rw other refl

-- a point that isn't the root, and with which the path's text begins
pub covers_front : (path : PathValue) (text point rest : List ℕ) → text ≡ slashed path
    → text_eq point (codes "/") ≡ false → text ≡ point ++ rest → covers path point ≡ at_slash rest
covers_front path text point rest is other front =
    covers_by_text path point other
    ∙ ap (λ t. is_below t point) (sym is ∙ front)
    ∙ after_point point rest

-- another point that isn't the root
pub covers_not : (path : PathValue) (text point : List ℕ) → text ≡ slashed path
    → text_eq point (codes "/") ≡ false → ((rest : List ℕ) → text ≢ point ++ rest)
    → covers path point ≡ false
covers_not path text point is other no_front =
    covers_by_text path point other
    ∙ ap (λ t. is_below t point) (sym is)
    ∙ not_below text point no_front

pub empty_at_slash : (rest : List ℕ) → (length rest == 0) ≡ true → at_slash rest ≡ true
empty_at_slash [] empty = refl
empty_at_slash (b ∷ rest) empty =
    let none : length (b ∷ rest) ≡ 0 = eqb-true (length (b ∷ rest)) 0 empty in absurd (omega arith)

pub first_at_slash : (rest : List ℕ) → (length rest == 0) ≡ false
    → nat_eq (get_or rest 0 0) slash ≡ at_slash rest
first_at_slash [] empty = absurd cc
first_at_slash (b ∷ rest) empty = refl
