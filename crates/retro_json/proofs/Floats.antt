-- The written values have no float, so their text is determined.
use Rattle.std.proofs.Common.{◌≡◌, ℕ, List, [], ◌∷◌, map, filter, false, refl}
use Rattle.std.specs.Ordering.{nat_cmp}
use Rattle.std.specs.FinMap as map
use Rattle.serde_json.specs.Data.{Data}
use Rattle.serde_json.specs.Written.{has_float}
use Rattle.retro_tree.specs.Order.{text_cmp}
use Rattle.retro_tree.specs.Path.{PathValue}
use Rattle.retro_tree.specs.Tree.{Tree}
use Rattle.retro_tree.specs.declared.entry.Entry.{Entry}
use Rattle.retro_tree.specs.declared.entry.Entry.TheVariants.{Dir, File}
use Rattle.retro_tree.specs.declared.session.Session.{Session}
use Rattle.retro_json.specs.Shape.{Text}
use Rattle.retro_json.specs.Values.{array_of, entry_data, path_text, row_data, is_listed, tree_data, var_data, vars_data}
use Rattle.retro_json.specs.Values.{session_data, sessions_data}

-- an array has no float if no item has one
pub array_float : {X : Type 0} (f : X → Data) → ((x : X) → has_float (f x) ≡ false) → (xs : List X)
    → has_float (array_of (map f xs)) ≡ false
array_float f one [] = refl
array_float f one (x ∷ xs) = rw (one x, array_float f one xs) refl

entry_float : (path : Text) (entry : Entry) → has_float (entry_data path entry) ≡ false
entry_float path Dir = refl
entry_float path (File bytes) = refl

row_float : (e : PathValue × Entry) → has_float (row_data e) ≡ false
unfolding row_data
row_float e = entry_float (path_text e.0) e.1

pub tree_float : (tree : Tree) → has_float (tree_data tree) ≡ false
unfolding tree_data
tree_float tree = array_float row_data row_float (filter is_listed (map.entries tree))

vars_float : (vars : map.FinMap text_cmp Text) → has_float (vars_data vars) ≡ false
unfolding vars_data
vars_float vars = array_float var_data (λ e. refl) (map.entries vars)

session_float : (e : ℕ × Session) → has_float (session_data e) ≡ false
unfolding session_data
session_float e = rw (vars_float e.1.vars) refl

pub sessions_float : (sessions : map.FinMap nat_cmp Session) → has_float (sessions_data sessions) ≡ false
unfolding sessions_data
sessions_float sessions = array_float session_data session_float (map.entries sessions)
