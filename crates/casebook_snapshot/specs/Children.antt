-- The children of a directory: their paths, and what a listing has to name.
use Rattle.std.specs.Prelude.{◌≡◌, ◌⊎◌, ℕ, false, List, [], ◌∷◌, ◌++◌, Option, Some, None, Vec}
use Rattle.std.specs.declared.alloc.Global.{Global}
use Rattle.retro_path.specs.Path.{PathValue}
use Rattle.casebook_snapshot.specs.Items.{Contents, is_missing}
use Rattle.casebook_snapshot.specs.Reasons.{name_reason}
use Rattle.casebook_snapshot.specs.declared.child.Child.{Child}
use Rattle.casebook_snapshot.specs.declared.child.ChildPath.{ChildPath}
use Rattle.casebook_snapshot.specs.declared.child.ChildPath.TheVariants.{Is, Never}
use Rattle.casebook_snapshot.specs.declared.reason.Reason.{Reason}

-- the path of a child, also if its name isn't UTF-8
abbrev pub path_of : Child → PathValue
path_of c = c.parent ++ c.name.items ∷ []

abbrev pub child_path_by : Child → Option Reason → ChildPath
child_path_by c None = Is (path_of c)
child_path_by c (Some r) = Never r

-- the path of a child, or the reason why no row can have it
abbrev pub child_path : Child → ChildPath
child_path c = child_path_by c (name_reason c.name.items)

-- each child is one of the directory, and something is there
abbrev pub ArePresent : Contents → PathValue → List Child → Type 0
ArePresent f p [] = Unit {0}
ArePresent f p (c ∷ cs) =
    (c.parent ≡ p) × ((is_missing (f (path_of c)) ≡ false) × ArePresent f p cs)

-- a name is among those of some children
abbrev pub IsNamed : List Child → List ℕ → Type 0
IsNamed [] n = ⊥
IsNamed (c ∷ cs) n = (c.name.items ≡ n) ⊎ IsNamed cs n

-- The children of a directory are those at which the folder holds something.
pub record IsListing (f : Contents) (p : PathValue) (cs : List Child) : Type 0 where
  pub sound : ArePresent f p cs
  pub complete : (n : List ℕ) → is_missing (f (p ++ n ∷ [])) ≡ false → IsNamed cs n

-- what a listing whose folder doesn't change says of a directory
abbrev pub IsListed : Contents → PathValue → Option (Vec Child Global) → Type 0
IsListed f p None = ⊥
IsListed f p (Some cs) = IsListing f p cs.items
