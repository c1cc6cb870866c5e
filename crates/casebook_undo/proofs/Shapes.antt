-- An undo file has no float, and nests few arrays.
use Rattle.std.proofs.Common.{◌≡◌, ℕ, ◌≤◌, List, [], ◌∷◌, map, false, refl, arith}
use Rattle.serde_json.specs.Data.{Data, depth, items_depth}
use Rattle.serde_json.specs.Read.{max_depth}
use Rattle.serde_json.specs.View.{items_of}
use Rattle.serde_json.specs.Written.{has_float}
use Rattle.retro_path.specs.Path.{PathValue}
use Rattle.retro_json.proofs.Floats.{array_float}
use Rattle.casebook_folder.specs.declared.found.Found.{Found}
use Rattle.casebook_folder.specs.declared.found.Found.TheVariants.{Missing, Dir, File, Blocked}
use Rattle.casebook_folder.specs.declared.row.Row.{Row}
use Rattle.casebook_undo.specs.Documents.{node_data, row_data, rows_data, undo_data}

-- ---- no float

node_float : (x : Found) → has_float (node_data x) ≡ false
node_float Missing = refl
node_float (Dir a) = refl
node_float (File bytes a) = refl
node_float (Blocked o) = refl

row_float : (r : Row) → has_float (row_data r) ≡ false
unfolding row_data
row_float r = rw (node_float r.before, node_float r.after) refl

rows_float : (rows : List Row) → has_float (rows_data rows) ≡ false
unfolding rows_data
rows_float rows = array_float row_data row_float rows

pub undo_float : (at : PathValue) (rows : List Row) → has_float (undo_data at rows) ≡ false
unfolding undo_data
undo_float at rows = rw (rows_float rows) refl

-- ---- few arrays

items_low : {X : Type 0} (f : X → Data) (n : ℕ) → ((x : X) → depth (f x) ≤ n) → (xs : List X)
    → items_depth (items_of (map f xs)) ≤ n
items_low f n one [] = omega arith
items_low f n one (x ∷ xs) = let a = one x in let b = items_low f n one xs in omega (arith, a, b)

node_low : (x : Found) → depth (node_data x) ≤ 1
node_low Missing = omega arith
node_low (Dir a) = omega arith
node_low (File bytes a) = omega arith
node_low (Blocked o) = omega arith

row_low : (r : Row) → depth (row_data r) ≤ 2
unfolding row_data
row_low r = let a = node_low r.before in let b = node_low r.after in omega (arith, a, b)

rows_low : (rows : List Row) → depth (rows_data rows) ≤ 3
unfolding rows_data
rows_low rows = let a = items_low row_data 2 row_low rows in omega (arith, a)

pub undo_low : (at : PathValue) (rows : List Row) → depth (undo_data at rows) ≤ max_depth
unfolding undo_data
undo_low at rows = let a = rows_low rows in omega (arith, a)
