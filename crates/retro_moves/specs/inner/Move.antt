-- A move in progress: the nodes below p are put below q one by one, and then the old paths go
-- from the last to the first.
use Rattle.std.specs.Prelude.{◌≡◌, ◌≢◌, ℕ, Bool, true, false, not, ◌&&◌, if◌then◌else◌, List, [], ◌∷◌, ◌++◌, Option}
use Rattle.std.specs.Prelude.{Some, None, is_some}
use Rattle.std.specs.List.{list_any, list_all}
use Rattle.retro_tree.specs.Order.{path_eq, text_eq}
use Rattle.retro_tree.specs.Name.{is_name}
use Rattle.retro_tree.specs.Path.{PathValue, below, parent_of, null_path}
use Rattle.retro_tree.specs.Tree.{Tree, node_in}
use Rattle.retro_tree.specs.declared.node.Node.{Node}
use Rattle.retro_tree.specs.declared.node.Node.TheVariants.{Missing, Dir}
use Rattle.retro_moves.specs.Trees.{Apart}
use Rattle.retro_moves.specs.inner.Removal.{Distinct}

-- whether a path begins with one of the names
abbrev pub starts : List (List ℕ) → PathValue → Bool
starts names [] = false
starts names (n ∷ rest) = list_any (text_eq n) names

-- the nodes at and below p can be put at and below q, where nothing is below q yet
pub record CanCopy (p q : PathValue) (t : Tree) : Type 0 where
  pub apart : Apart p q
  pub free : Apart null_path q
  pub named : node_in p t ≢ Missing → list_all is_name q ≡ true
  pub bare : (n : List ℕ) (rest : PathValue) → node_in (q ++ n ∷ rest) t ≡ Missing
  pub above : node_in (parent_of q) t ≡ Dir

-- the node at a path, by the names that follow q: p's node, unless the first of them is one of
-- those left
abbrev pub node_copied : PathValue → Tree → List (List ℕ) → Option PathValue → Node → Node
node_copied p t left None node = node
node_copied p t left (Some rest) node = if starts left rest then Missing else node_in (p ++ rest) t

-- no path of a list is followed by one that it is below
abbrev pub are_ordered : List PathValue → Bool
are_ordered [] = true
are_ordered (k ∷ ks) = list_all (λ r. not (is_some (below r k))) ks && are_ordered ks

-- a path is p or below it, and doesn't continue p with one of the names left
pub record IsCopied (p : PathValue) (left : List (List ℕ)) (r : PathValue) : Type 0 where
  pub rest : PathValue
  pub is : r ≡ p ++ rest
  pub done : starts left rest ≡ false

-- u is t with p's nodes put at and below q, except at and below p's children with the names left;
-- `paths` are the old paths of the nodes that were put
pub record IsCopy (p q : PathValue) (left : List (List ℕ)) (paths : List PathValue) (t u : Tree) : Type 0 where
  pub nodes : (r : PathValue) → node_in r u ≡ node_copied p t left (below q r) (node_in r t)
  pub covers : (rest : PathValue) → node_in (p ++ rest) t ≢ Missing → starts left rest ≡ false
      → list_any (path_eq (p ++ rest)) paths ≡ true
  pub under : (r : PathValue) → list_any (path_eq r) paths ≡ true → IsCopied p left r
  pub ordered : are_ordered paths ≡ true
  pub distinct : Distinct left
  pub can : CanCopy p q t

-- v is u without some of the nodes at and below p; the paths of those that are left are in the list
pub record IsCleared (p : PathValue) (paths : List PathValue) (u v : Tree) : Type 0 where
  pub keeps : (r : PathValue) → is_some (below p r) ≡ false → node_in r v ≡ node_in r u
  pub left : (r : PathValue) → node_in r v ≢ Missing → is_some (below p r) ≡ true
      → list_any (path_eq r) paths ≡ true
  pub under : (r : PathValue) → list_any (path_eq r) paths ≡ true → is_some (below p r) ≡ true
  pub ordered : are_ordered paths ≡ true

-- all nodes of p were put at q, and the old paths that are left are in the list
pub record IsMoving (p q : PathValue) (all left : List PathValue) (t v : Tree) : Type 0 where
  pub between : Tree
  pub copy : IsCopy p q [] all t between
  pub cleared : IsCleared p left between v
