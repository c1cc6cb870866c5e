-- A removal in progress: the names of a directory go one by one.
use Rattle.std.specs.Prelude.{◌≡◌, ℕ, false, if◌then◌else◌, List, [], ◌∷◌, Option, Some, None}
use Rattle.std.specs.List.{list_any}
use Rattle.retro_tree.specs.Order.{text_eq}
use Rattle.retro_tree.specs.Path.{PathValue, below}
use Rattle.retro_tree.specs.Tree.{Tree, node_in}
use Rattle.retro_tree.specs.declared.node.Node.{Node}
use Rattle.retro_tree.specs.declared.node.Node.TheVariants.{Missing, Dir}
use Rattle.retro_tree.specs.declared.state.State.{State}

-- no name occurs twice
abbrev pub Distinct : List (List ℕ) → Type 0
Distinct [] = Unit {0}
Distinct (n ∷ ns) = (list_any (text_eq n) ns ≡ false) × Distinct ns

-- the node at a path, by the names that follow p: missing unless the first of them is one of those
-- left
abbrev pub node_left : List (List ℕ) → Option PathValue → Node → Node
node_left left None node = node
node_left left (Some []) node = node
node_left left (Some (n ∷ rest)) node = if list_any (text_eq n) left then node else Missing

-- p is a directory of t, and u is t without what is below p, except at and below the children of p
-- with the names left
pub record IsThinned (p : PathValue) (left : List (List ℕ)) (t u : Tree) : Type 0 where
  pub dir : node_in p t ≡ Dir
  pub nodes : (r : PathValue) → node_in r u ≡ node_left left (below p r) (node_in r t)
  pub distinct : Distinct left

-- R relates the trees of two states, and their sessions are the same
pub record OfTrees (R : Tree → Tree → Type 0) (s u : State) : Type 0 where
  pub trees : R s.tree u.tree
  pub others : u ≡ record s { tree = u.tree }
