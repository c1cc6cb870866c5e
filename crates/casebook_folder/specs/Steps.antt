-- What a folder holds, and the steps that change it. A step changes what is at one path, at once.
use Rattle.std.specs.Prelude.{◌≡◌, ℕ, false, List, [], ◌∷◌, ◌++◌, if◌then◌else◌}
use Rattle.std.specs.List.{list_any}
use Rattle.retro_path.specs.Order.{path_eq, text_eq}
use Rattle.retro_path.specs.Path.{PathValue}
use Rattle.casebook_folder.specs.Found.{is_missing}
use Rattle.casebook_folder.specs.declared.found.Found.{Found}

-- what is at each path, if no link is followed
abbrev pub Contents : Type 0
Contents = PathValue → Found

-- the path whose node changes, what has to be there before, and what is there then
pub record Step : Type 0 where
  pub path : PathValue
  pub before : Found
  pub found : Found

abbrev pub step : PathValue → Found → Found → Step
step p b x = record { path = p; before = b; found = x }

-- the contents with another node at a path
abbrev pub put : PathValue → Found → Contents → Contents
put p x f q = if path_eq p q then x else f q

-- the contents after some steps
abbrev pub after_steps : List Step → Contents → Contents
after_steps [] f = f
after_steps (s ∷ ss) f = after_steps ss (put s.path s.found f)

-- something is in a directory under a name that isn't among some names
pub record HasOtherChild (f : Contents) (p : PathValue) (names : List (List ℕ)) : Type 0 where
  pub name : List ℕ
  pub other : list_any (text_eq name) names ≡ false
  pub exists : is_missing (f (p ++ name ∷ [])) ≡ false
