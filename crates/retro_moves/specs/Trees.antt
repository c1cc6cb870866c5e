-- Trees that change at many paths at once: without a path, and with a path moved (POSIX.1-2017 XCU
-- rm, mv).
use Rattle.std.specs.Prelude.{◌≡◌, Bool, false, not, ◌||◌, if◌then◌else◌, [], ◌++◌, map, Option}
use Rattle.std.specs.Prelude.{Some, None, is_some}
use Rattle.std.specs.FinMap as finmap
use Rattle.retro_tree.specs.Node.{is_dir}
use Rattle.retro_tree.specs.Path.{PathValue, below, parent_of, null_path}
use Rattle.retro_tree.specs.Tree.{Tree, node_in}
use Rattle.retro_tree.specs.Ask.{names_in}
use Rattle.retro_tree.specs.declared.node.Node.TheVariants.{Dir}
use Rattle.retro_tree.specs.declared.state.State.{State}

-- a tree without a path and everything below it
unfoldable pub without : PathValue → Tree → Tree
without p tree = finmap.retain_keys tree (λ r. not (is_some (below p r)))

-- a tree without a path and everything below it; unless `recursive`, a directory stays
abbrev pub removed : Bool → PathValue → Tree → Tree
removed recursive p tree = if recursive || not (is_dir (node_in p tree)) then without p tree else tree

-- q continued by what follows a prefix, or the path itself if it doesn't have the prefix
abbrev pub continued : PathValue → PathValue → Option PathValue → PathValue
continued q r None = r
continued q r (Some rest) = q ++ rest

-- a path with its prefix p replaced by q, if it has it
abbrev pub moved_path : PathValue → PathValue → PathValue → PathValue
moved_path p q r = continued q r (below p r)

-- a tree in which p and everything below it is moved to q, in place of what was there
unfoldable pub moved : PathValue → PathValue → Tree → Tree
moved p q tree = finmap.from_entries (map (λ e. (moved_path p q e.0, e.1)) (finmap.entries (without q tree)))

-- a state whose tree is changed
abbrev pub with_tree : (Tree → Tree) → State → State
with_tree change s = record s { tree = change s.tree }

-- neither path is a prefix of the other
pub record Apart (p q : PathValue) : Type 0 where
  pub left : is_some (below p q) ≡ false
  pub right : is_some (below q p) ≡ false

-- The directory p can be moved to q: q isn't p or below it, its parent is a directory, it has no
-- children, and it is neither at /dev/null, nor below or above it.
pub record CanMove (p q : PathValue) (tree : Tree) : Type 0 where
  pub dir : node_in p tree ≡ Dir
  pub outside : is_some (below p q) ≡ false
  pub free : Apart null_path q
  pub parent : node_in (parent_of q) tree ≡ Dir
  pub empty : names_in q tree ≡ []
