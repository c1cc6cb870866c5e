-- What a folder holds while rows are carried out, and after it.
use Rattle.std.specs.Prelude.{◌≡◌, ◌⊎◌, IsTrue, List, Option, Some, None}
use Rattle.retro_path.specs.Path.{PathValue}
use Rattle.casebook_folder.specs.Found.{changes_kind}
use Rattle.casebook_folder.specs.Steps.{Contents}
use Rattle.casebook_folder.specs.Rows.{row_at}
use Rattle.casebook_folder.specs.declared.row.Row.{Row}
use Rattle.casebook_folder.specs.declared.found.Found.{Found}
use Rattle.casebook_folder.specs.declared.found.Found.TheVariants.{Missing}

-- What may be at a path that held x: x where no row is of it, and else x, what the row puts there,
-- or nothing if the row changes the kind.
abbrev pub MayHold : Option Row → Found → Found → Type 0
MayHold None x y = y ≡ x
MayHold (Some r) x y =
    (y ≡ x) ⊎ (y ≡ r.after) ⊎ ((y ≡ Missing) × IsTrue (changes_kind r.before r.after))

-- each path holds its old or its new node, or nothing while its kind changes
abbrev pub IsMoment : List Row → Contents → Contents → Type 0
IsMoment rows old now = (q : PathValue) → MayHold (row_at q rows) (old q) (now q)

-- what a path that held x is to hold
abbrev pub node_after : Option Row → Found → Found
node_after None x = x
node_after (Some r) x = r.after

-- the folder is the old one with the new nodes at exactly the rows' paths
abbrev pub IsRestored : List Row → Contents → Contents → Type 0
IsRestored rows old now = (q : PathValue) → now q ≡ node_after (row_at q rows) (old q)
