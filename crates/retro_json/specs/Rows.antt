-- The definitions of a tree and of sessions in two steps: all rows are read, and then a tree or
-- sessions are made of them.
use Rattle.std.specs.Prelude.{◌≡◌, ℕ, List, ◌∷◌, Some, Result, Ok, ok_or}
use Rattle.std.specs.Ordering.{nat_cmp}
use Rattle.std.specs.FinMap.{FinMap}
use Rattle.json.specs.Token.{Token}
use Rattle.serde_json.specs.Data.{Data, Items}
use Rattle.retro_value.specs.Left.{items_left}
use Rattle.retro_tree.specs.Lawful.{is_lawful_tree}
use Rattle.retro_tree.specs.Order.{path_cmp}
use Rattle.retro_tree.specs.Path.{PathValue}
use Rattle.retro_tree.specs.Tree.{Tree as TreeValue}
use Rattle.retro_tree.specs.declared.entry.Entry.{Entry}
use Rattle.retro_tree.specs.declared.session.Session.{Session}
use Rattle.retro_json.specs.declared.fault.Part.TheVariants.{Sessions, Tree}
use Rattle.retro_json.specs.declared.fault.Refusal.{Refusal}
use Rattle.retro_json.specs.declared.fault.Refusal.TheVariants.{LawlessTree, WrongShape}
use Rattle.retro_json.specs.Keyed.{are_distinct, keys_of, map_of}
use Rattle.retro_json.specs.SessionsPart as sessions
use Rattle.retro_json.specs.Shape.{cells, item_list}
use Rattle.retro_json.specs.Steps.{◌>>=◌, guard}
use Rattle.retro_json.specs.TreePart as tree
use Rattle.retro_json.specs.Worst.{every}

abbrev pub tree_rows : Data → Result (List (PathValue × Entry)) Refusal
tree_rows d = cells Tree d >>= every tree.row_of

abbrev pub tree_of_rows : List (PathValue × Entry) → Result TreeValue Refusal
tree_of_rows rows = do
  found ← ok_or (map_of path_cmp (tree.root_entry ∷ rows)) LawlessTree
  law ← guard (is_lawful_tree found) LawlessTree
  Ok found

abbrev pub session_rows : Data → Result (List (ℕ × Result Session Refusal)) Refusal
session_rows d = cells Sessions d >>= every sessions.row_of

abbrev pub sessions_of_all : List (ℕ × Result Session Refusal) → Result (FinMap nat_cmp Session) Refusal
sessions_of_all rows = do
  apart ← guard (are_distinct nat_cmp (keys_of rows)) (WrongShape Sessions)
  sessions.sessions_of_rows rows

-- the rows are those of the items up to the end of an array
abbrev pub IsReadOf : {B : Type 0} → (Data → Result B Refusal) → ℕ → List Token → List Token
    → Result (List B) Refusal → Type 0
IsReadOf f depth old new rows =
    (ds : Items) × (items_left depth old ≡ Some (ds, new)) × (rows ≡ every f (item_list ds))
