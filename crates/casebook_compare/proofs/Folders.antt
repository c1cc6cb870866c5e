-- The tree that rows make, placed one after another.
use Rattle.std.proofs.Common.{◌≡◌, ◌∙◌, Bool, true, false, List, [], ◌∷◌, Option, Some, None, cond, refl, sym, ap}
use Rattle.std.proofs.Common.{subst}
use Rattle.std.specs.BTreeMap.{is_at, keys}
use Rattle.std.specs.FinMap as finmap
use Rattle.std.specs.FinMap.{get-empty, get-insert, get-remove}
use Rattle.std.specs.List.{AllByRecursion}
use Rattle.std.specs.List.Sorted.{IsStrictlySortedBy}
use Rattle.std.specs.Map.{keys_of, lookup}
use Rattle.std.specs.Ordering.{is_eq}
use Rattle.std.specs.declared.cmp.Ordering.TheVariants.{Less}
use Rattle.retro_tree.proofs.Small.{tied}
use Rattle.retro_path.specs.Order.{path_cmp, path_exact, path_total}
use Rattle.retro_path.specs.Path.{PathValue}
use Rattle.retro_tree.specs.Node.{node_of}
use Rattle.retro_tree.specs.State.{empty_state}
use Rattle.retro_tree.specs.Tree.{Tree, node_in, put}
use Rattle.retro_tree.specs.declared.entry.Entry.{Entry}
use Rattle.retro_tree.specs.declared.entry.Entry.TheVariants.{Dir as DirEntry, File as FileEntry}
use Rattle.retro_tree.specs.declared.node.Node.{Node}
use Rattle.retro_tree.specs.declared.node.Node.TheVariants.{Missing, Dir, File}
use Rattle.casebook_snapshot.specs.Snapshots.{entry_of}
use Rattle.casebook_snapshot.specs.declared.item.Row.{Row}

abbrev pub Rows : Type 0
Rows = List (PathValue × Row)

-- the node at a path after the rows, if it was another one before
abbrev pub node_after : List (PathValue × Row) → PathValue → Node → Node
node_after [] q n = n
node_after (e ∷ es) q n = node_after es q (cond (is_at (path_cmp q) e.0) (node_of (Some e.1.entry)) n)

-- ---- one node more

node_by : (b : Bool) (x y : Option Entry) → node_of (cond b x y) ≡ cond b (node_of x) (node_of y)
node_by true x y = refl
node_by false x y = refl

pub node_put : (p : PathValue) (node : Node) (t : Tree) (q : PathValue)
    → node_in q (put p node t) ≡ cond (is_at (path_cmp q) p) node (node_in q t)
unfolding node_in
node_put p Missing t q =
    ap node_of (get-remove path_total t p q) ∙ node_by _ None (finmap.get t q)
node_put p Dir t q =
    ap node_of (get-insert path_total t p DirEntry q) ∙ node_by _ (Some DirEntry) (finmap.get t q)
node_put p (File x) t q =
    ap node_of (get-insert path_total t p (FileEntry x) q) ∙ node_by _ (Some (FileEntry x)) (finmap.get t q)

-- a state that lacks its root has nothing
lacking : (b : Bool) → cond b Missing (cond b Dir Missing) ≡ Missing
lacking true = refl
lacking false = refl

pub node_none : (q : PathValue) → node_in q (put [] Missing empty_state.tree) ≡ Missing
unfolding empty_state node_in
node_none q =
    node_put [] Missing empty_state.tree q
    ∙ ap (cond (is_at (path_cmp q) []) Missing)
    (node_put [] Dir finmap.empty q ∙ ap (λ o. cond (is_at (path_cmp q) []) Dir (node_of o)) (get-empty path_cmp q))
    ∙ lacking (is_at (path_cmp q) [])

-- ---- all rows

-- a path before all that are left is none of them
none_left : (p q : PathValue) (es : Rows) → AllByRecursion (λ y. path_cmp p y ≡ Less) (keys_of es) → q ≡ p → (n : Node)
    → node_after es q n ≡ n
none_left p q [] less same n = refl
none_left p q (e ∷ es) less same n =
    let apart : is_at (path_cmp q) e.0 ≡ false = ap (λ x. is_eq (path_cmp x e.0)) same ∙ ap is_eq less.0 in
    ap (λ b. node_after es q (cond b (node_of (Some e.1.entry)) n)) apart ∙ none_left p q es less.1 same n

-- the row of a path decides, and there is one at most
pub node_found : (es : Rows) → IsStrictlySortedBy path_cmp (keys_of es) → (q : PathValue)
    → node_after es q Missing ≡ node_of (entry_of (lookup (is_at (path_cmp q)) es))
unfolding IsStrictlySortedBy
node_found [] sorted q = refl
node_found (e ∷ es) sorted q = by_test (is_at (path_cmp q) e.0) refl (node_found es sorted.1 q)
  where
    by_test : (b : Bool) → is_at (path_cmp q) e.0 ≡ b
        → node_after es q Missing ≡ node_of (entry_of (lookup (is_at (path_cmp q)) es))
        → node_after es q (cond b (node_of (Some e.1.entry)) Missing)
        ≡ node_of (entry_of (cond b (Some e.1) (lookup (is_at (path_cmp q)) es)))
    by_test true here later = none_left e.0 q es sorted.0 (path_exact q e.0 (tied _ here)) _
    by_test false apart later = later
