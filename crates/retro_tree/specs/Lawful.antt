-- Lawful trees and states.
use Rattle.std.specs.Prelude.{◌≡◌, ◌≢◌, ◌≤◌, ℕ, List, Bool, true, false, not, ◌&&◌, ◌||◌, nat_le, [], ◌∷◌, length, Some}
use Rattle.std.specs.Prelude.{is_some}
use Rattle.std.specs.List.{list_all}
use Rattle.std.specs.FinMap as map
use Rattle.retro_tree.specs.Name.{AllNames}
use Rattle.retro_tree.specs.Path.{PathValue, below, parent_of, null_path, may_exist}
use Rattle.retro_tree.specs.Node.{file_limit, node_of, is_dir, size_of, grown}
use Rattle.retro_tree.specs.Tree.{Tree, node_in, has_child}
use Rattle.retro_tree.specs.Limits.{AreLawfulSessions, are_lawful_sessions}
use Rattle.retro_tree.specs.declared.entry.Entry.{Entry}
use Rattle.retro_tree.specs.declared.state.State.{State}
use Rattle.retro_tree.specs.declared.node.Node.{Node}
use Rattle.retro_tree.specs.declared.node.Node.TheVariants.{Missing, Dir, File}

-- whether a node may be at a path, by the node at the parent
abbrev pub law_at : PathValue → Node → Node → Bool
law_at [] node above = is_dir node
law_at (name ∷ rest) Missing above = true
law_at (name ∷ rest) Dir above = is_dir above && may_exist (name ∷ rest)
law_at (name ∷ rest) (File bytes) above =
    is_dir above && (may_exist (name ∷ rest) && nat_le (length bytes) file_limit)

-- A tree is lawful if each node may be at its path.
unfoldable pub IsLawfulTree : Tree → Type 0
IsLawfulTree tree = (p : PathValue) → law_at p (node_in p tree) (node_in (parent_of p) tree) ≡ true

-- the lawfulness of a tree as five separate conditions
pub record KeepsTreeLaw (tree : Tree) : Type 0 where
  pub root : node_in [] tree ≡ Dir
  pub parents : (p : PathValue) → node_in p tree ≢ Missing → node_in (parent_of p) tree ≡ Dir
  pub apart : (p : PathValue) → node_in p tree ≢ Missing → is_some (below null_path p) ≡ false
  pub names : (p : PathValue) → node_in p tree ≢ Missing → AllNames p
  pub files : (p : PathValue) → size_of (node_in p tree) ≤ file_limit

-- whether a lawful tree stays lawful with a node at a path
abbrev pub may_put : PathValue → Node → Tree → Bool
may_put p node tree =
    law_at p node (node_in (parent_of p) tree) && (is_dir node || not (has_child p tree))

-- whether a lawful tree stays lawful with bytes appended to the file at a path
abbrev pub may_grow : PathValue → List ℕ → Tree → Bool
may_grow p bytes tree =
    not (is_dir (node_in p tree))
    && law_at p (grown bytes (node_in p tree)) (node_in (parent_of p) tree)

-- whether an entry may be at its path
unfoldable pub entry_passes : Tree → PathValue × Entry → Bool
entry_passes tree e = law_at e.0 (node_of (Some e.1)) (node_in (parent_of e.0) tree)

-- whether a tree is lawful: the root is a directory, and each entry may be at its path
unfoldable pub is_lawful_tree : Tree → Bool
is_lawful_tree tree = is_dir (node_in [] tree) && list_all (entry_passes tree) (map.entries tree)

-- A state is lawful if its tree is lawful and its sessions are within the limits.
pub record IsLawful (s : State) : Type 0 where
  pub tree : IsLawfulTree s.tree
  pub sessions : AreLawfulSessions s.sessions

-- whether a state is lawful
unfoldable pub is_lawful : State → Bool
is_lawful s = is_lawful_tree s.tree && are_lawful_sessions s.sessions
