-- What holds of folders if it is known what they hold.
use Rattle.std.proofs.Common.{◌≡◌, List, [], Option, Some, None, IfSome, refl, subst}
use Rattle.std.specs.Prelude.{is_some, option_map}
use Rattle.casebook_folder.specs.Steps.{Contents, Step, after_steps}

pub one : {A : Type 0} (o : Option A) (P Q : A → Type 0) → IfSome o P → ((x : A) → P x → Q x) → IfSome o Q
one None P Q h f = tt
one (Some x) P Q h f = f x h

pub two : {A : Type 0} (o : Option A) (P Q R : A → Type 0) → IfSome o P → IfSome o Q
    → ((x : A) → P x → Q x → R x) → IfSome o R
two None P Q R h k f = tt
two (Some x) P Q R h k f = f x h k

-- what is known of a folder that was just opened holds of what it held then
pub opened : {A : Type 0} (o : Option A) (first : Option Contents) (made : List Step) (held : A → Contents)
    (P : Contents → Type 0) → IfSome o (λ at. (first ≡ Some (held at)) × (made ≡ []))
    → IfSome first (λ f. P (after_steps made f)) → IfSome o (λ at. P (held at))
opened None first made held P is h = tt
opened (Some at) first made held P is h =
    subst (λ steps. P (after_steps steps (held at))) is.1
    (subst (λ f. IfSome f (λ x. P (after_steps made x))) is.0 h)

pub some_mapped : {A B : Type 0} (f : A → B) (o : Option A) → is_some (option_map f o) ≡ is_some o
some_mapped f None = refl
some_mapped f (Some x) = refl
