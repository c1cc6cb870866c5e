-- The children of directories of a folder that is put at a path.
use Rattle.std.specs.Prelude.{◌≡◌, List, [], ◌∷◌, Option, Some, None}
use Rattle.retro_path.specs.Path.{PathValue}
use Rattle.casebook_snapshot.specs.declared.child.Child.{Child}

-- a child with another directory above it
abbrev pub moved_to : PathValue → Child → Child
moved_to p c = record { parent = p; name = c.name }

-- the only child of a directory, with the first of some names that lead from there on, if there are
abbrev pub IsTowards : PathValue → Option PathValue → List Child → Type 0
IsTowards p None cs = cs ≡ []
IsTowards p (Some []) cs = cs ≡ []
IsTowards p (Some (n ∷ ns)) cs =
    (c : Child) × ((cs ≡ c ∷ []) × ((c.parent ≡ p) × (c.name.items ≡ n)))
