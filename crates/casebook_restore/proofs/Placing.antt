-- A folder that is put at a path: what it holds after steps, and its own steps.
use Rattle.std.proofs.Common.{◌≡◌, ◌↔◌, ◌∙◌, ℕ, Bool, true, false, ◌&&◌, List, [], ◌∷◌, ◌++◌, Option, Some}
use Rattle.std.proofs.Common.{None, Result, Ok, Err, ap, append_assoc, refl, subst, sym}
use Rattle.std.specs.Prelude.{IfOk, IfSome, if◌then◌else◌, option_map}
use Rattle.retro_path.specs.Order.{path_eq, text_eq}
use Rattle.retro_path.specs.Path.{PathValue, below}
use Rattle.casebook_folder.specs.Found.{is_missing}
use Rattle.casebook_folder.specs.Parts.{OtherPartsStay, Parts}
use Rattle.casebook_folder.specs.Steps.{Contents, HasOtherChild, Step, after_steps, put, step}
use Rattle.casebook_folder.specs.declared.found.Found.{Found}
use Rattle.casebook_folder.proofs.Small.{none_some, path_refl, first_and, same_text, some_same}
use Rattle.casebook_restore.specs.inner.Placed.{found_by, moved, moved_steps, part_by, placed, placed_parts}

-- ---- paths below another

text_refl : (x : List ℕ) → text_eq x x ≡ true
text_refl x = first_and (text_eq x x) true (path_refl (x ∷ []))

below_moved : (at p : PathValue) → below at (at ++ p) ≡ Some p
below_moved [] p = refl
below_moved (x ∷ at) p = ap (λ b. if b then below at (at ++ p) else None) (text_refl x) ∙ below_moved at p

pub moved_back : (at q r : PathValue) → below at q ≡ Some r → at ++ r ≡ q
moved_back [] q r e = sym (some_same q r e)
moved_back (x ∷ at) [] r e = absurd (none_some r e)
moved_back (x ∷ at) (y ∷ q) r e = by_name (text_eq x y) refl (moved_back at q r) e
  where
    by_name : (b : Bool) → text_eq x y ≡ b → (below at q ≡ Some r → at ++ r ≡ q)
        → (if b then below at q else None) ≡ Some r → x ∷ (at ++ r) ≡ y ∷ q
    by_name true same back here = λ i. same_text x y same i ∷ back here i
    by_name false same back here = absurd (none_some r here)

abbrev pub is_rest : PathValue → Option PathValue → Bool
is_rest p None = false
is_rest p (Some r) = path_eq p r

same_moved : (at p q : PathValue) → path_eq (at ++ p) q ≡ is_rest p (below at q)
same_moved [] p q = refl
same_moved (x ∷ at) p [] = refl
same_moved (x ∷ at) p (y ∷ q) = by_name (text_eq x y) (same_moved at p q)
  where
    by_name : (b : Bool) → path_eq (at ++ p) q ≡ is_rest p (below at q)
        → (b && path_eq (at ++ p) q) ≡ is_rest p (if b then below at q else None)
    by_name true rest = rest
    by_name false rest = refl

-- ---- what is there after steps

after_alike : (steps : List Step) (f g : Contents) → ((q : PathValue) → f q ≡ g q) → (q : PathValue)
    → after_steps steps f q ≡ after_steps steps g q
after_alike [] f g same q = same q
after_alike (s ∷ steps) f g same q =
    after_alike steps (put s.path s.found f) (put s.path s.found g)
    (λ p. ap (λ x. if path_eq s.path p then s.found else x) (same p)) q

put_moved : (at : PathValue) (s : Step) (f : Contents) (q : PathValue)
    → put (at ++ s.path) s.found (placed at f) q ≡ placed at (put s.path s.found f) q
put_moved at s f q =
    ap (λ b. if b then s.found else found_by f (below at q)) (same_moved at s.path q) ∙ by_rest (below at q)
  where
    by_rest : (rest : Option PathValue)
        → (if is_rest s.path rest then s.found else found_by f rest) ≡ found_by (put s.path s.found f) rest
    by_rest None = refl
    by_rest (Some r) = refl

after_moved : (at : PathValue) (steps : List Step) (f : Contents) (q : PathValue)
    → after_steps (moved_steps at steps) (placed at f) q ≡ placed at (after_steps steps f) q
after_moved at [] f q = refl
after_moved at (s ∷ steps) f q =
    after_alike (moved_steps at steps) (put (at ++ s.path) s.found (placed at f)) (placed at (put s.path s.found f))
    (put_moved at s f) q
    ∙ after_moved at steps (put s.path s.found f) q

-- what is at a path is what the folder has there
pub found_moved : (at : PathValue) (steps : List Step) (f : Contents) (q r : PathValue) → below at q ≡ Some r
    → after_steps steps f r ≡ after_steps (moved_steps at steps) (placed at f) q
found_moved at steps f q r e =
    sym (after_moved at steps f q ∙ ap (found_by (after_steps steps f)) e)

child_moved : (at : PathValue) (steps : List Step) (f : Contents) (q r : PathValue) (n : List ℕ)
    → below at q ≡ Some r
    → after_steps steps f (r ++ n ∷ []) ≡ after_steps (moved_steps at steps) (placed at f) (q ++ n ∷ [])
child_moved at steps f q r n e =
    found_moved at steps f (q ++ n ∷ []) (r ++ n ∷ [])
    (subst (λ p. below at (p ++ n ∷ []) ≡ Some (r ++ n ∷ [])) (moved_back at q r e)
    (ap (below at) (append_assoc at r (n ∷ [])) ∙ below_moved at (r ++ n ∷ [])))

pub other_child : (at : PathValue) (steps : List Step) (f : Contents) (q r : PathValue) (names : List (List ℕ))
    → below at q ≡ Some r
    → HasOtherChild (after_steps steps f) r names
    ↔ HasOtherChild (after_steps (moved_steps at steps) (placed at f)) q names
other_child at steps f q r names e = (
  λ has. record {
    name = has.name;
    other = has.other;
    exists = sym (ap is_missing (child_moved at steps f q r has.name e)) ∙ has.exists;
  },
  λ has. record {
    name = has.name;
    other = has.other;
    exists = ap is_missing (child_moved at steps f q r has.name e) ∙ has.exists;
  },
)

-- ---- steps

map_append : (at : PathValue) (xs ys : List Step) → moved_steps at (xs ++ ys) ≡ moved_steps at xs ++ moved_steps at ys
map_append at [] ys = refl
map_append at (x ∷ xs) ys = ap (λ zs. moved at x ∷ zs) (map_append at xs ys)

-- one more step of the folder is one more at the path
pub step_moved : (at q r : PathValue) (before after : Found) (old new : List Step) → below at q ≡ Some r
    → new ≡ old ++ step r before after ∷ []
    → moved_steps at new ≡ moved_steps at old ++ step q before after ∷ []
step_moved at q r before after old new e is =
    ap (moved_steps at) is
    ∙ map_append at old (step r before after ∷ [])
    ∙ ap (λ p. moved_steps at old ++ step p before after ∷ []) (moved_back at q r e)

-- ---- parts of new nodes

-- what lies beside a path of the trees is what lies beside that of the folder
pub part_moved : (at q r : PathValue) (parts : Parts) → below at q ≡ Some r → placed_parts at parts q ≡ parts r
part_moved at q r parts e = ap (part_by parts) e

-- where the folder's other parts stay those of the trees do
pub others_moved : (at p r : PathValue) (old new : Parts) → below at p ≡ Some r → OtherPartsStay r old new
    → OtherPartsStay p (placed_parts at old) (placed_parts at new)
others_moved at p r old new e stay q other = by_rest (below at q) (sym (same_moved at r q) ∙ same)
  where
    same : path_eq (at ++ r) q ≡ false
    same = ap (λ x. path_eq x q) (moved_back at p r e) ∙ other

    by_rest : (rest : Option PathValue) → is_rest r rest ≡ false → part_by new rest ≡ part_by old rest
    by_rest None is = refl
    by_rest (Some s) is = stay s is

-- ---- what is said of what folders hold

pub some_placed : (o : Option Contents) (at : PathValue) (P Q : Contents → Type 0) → IfSome o P
    → ((f : Contents) → P f → Q (placed at f)) → IfSome (option_map (placed at) o) Q
some_placed None at P Q h f = tt
some_placed (Some x) at P Q h f = f x h

pub if_ok : {A E : Type 0} (r : Result A E) (P Q : A → Type 0) → ((x : A) → P x → Q x) → IfOk r P → IfOk r Q
if_ok (Ok x) P Q f h = f x h
if_ok (Err e) P Q f h = tt

pub one : (o : Option Contents) (P Q : Contents → Type 0) → IfSome o P → ((f : Contents) → P f → Q f) → IfSome o Q
one None P Q h f = tt
one (Some x) P Q h f = f x h

-- what lies beside paths stays where the folder isn't changed
pub unmoved : (o : Option Contents) (p : PathValue) (parts : Parts) → IfSome o (λ first. OtherPartsStay p parts parts)
unmoved None p parts = tt
unmoved (Some x) p parts = λ q other. refl
