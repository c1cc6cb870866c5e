-- When a directory can be moved, and what the move of a file is, in a lawful state.
use Rattle.std.proofs.Common.{◌≡◌, ◌≢◌, ◌≤◌, ℕ, Bool, true, false, ◌||◌, List, [], ◌∷◌, ◌++◌, length}
use Rattle.std.proofs.Common.{Option, Some, None, refl, sym, ap, ◌∙◌, subst}
use Rattle.std.specs.Prelude.{codes}
use Rattle.std.specs.Bool.{if◌then◌else◌}
use Rattle.std.specs.List.{list_any}
use Rattle.std.specs.Option.{is_some}
use Rattle.std.proofs.lemmas.Bool.{true≢false}
use Rattle.retro_tree.specs.Ask.{listing, names_in}
use Rattle.retro_tree.specs.Lawful.{IsLawful, IsLawfulTree}
use Rattle.retro_tree.specs.Node.{file_limit, is_dir, kind_of, size_of}
use Rattle.retro_tree.specs.Order.{path_eq, text_eq}
use Rattle.retro_tree.specs.Path.{PathValue, below, is_null, nothing_left, null_path, parent_of}
use Rattle.retro_tree.specs.State.{permit_of, put_node}
use Rattle.retro_tree.specs.Tree.{Tree, node_in}
use Rattle.retro_tree.specs.declared.kind.Kind.{Kind}
use Rattle.retro_tree.specs.declared.kind.Kind.TheVariants as kinds
use Rattle.retro_tree.specs.declared.node.Node.{Node}
use Rattle.retro_tree.specs.declared.node.Node.TheVariants.{Missing, Dir, File}
use Rattle.retro_tree.specs.declared.state.State.{State}
use Rattle.retro_tree.proofs.Below.{below_append, below_split, unlisted}
use Rattle.retro_tree.proofs.FilesAllowed.{permit_no_dir}
use Rattle.retro_tree.proofs.Lookups.{node_put_apart}
use Rattle.retro_tree.proofs.MayMake.{none_in_file}
use Rattle.retro_tree.proofs.Small.{none_some}
use Rattle.retro_tree.proofs.TreeLaw.{told}
use Rattle.retro_local.specs.Kinds.{kind_at}
use Rattle.retro_local.specs.Runs.{Always, Computes}
use Rattle.retro_local.specs.Trace.{Trace, reached}
use Rattle.retro_moves.specs.Trees.{CanMove, moved, with_tree}
use Rattle.retro_moves.proofs.MovedFiles.{moved_file}
use Rattle.retro_moves.proofs.Without.{below_itself, is_at, nothing_below}
use Rattle.retro_utils.specs.Mv.{is_device, no_dir_place, not_empty, overlap, overlap_by}
use Rattle.retro_utils.specs.Reasons.{no_directory, refusal}
use Rattle.retro_utils.proofs.Facts.{directory_at, granted}

dir_is_there : (n : Node) → n ≡ Dir → n ≢ Missing
dir_is_there n e m = cc

file_is_there : (n : Node) (bytes : List ℕ) → n ≡ File bytes → n ≢ Missing
file_is_there n bytes e m = cc

-- ---- the names of a directory
listed : (n : Node) (names found : List (List ℕ)) → n ≡ Dir → listing n names ≡ Some found → names ≡ found
listed Missing names found dir e = cc
listed Dir names found dir e = cc
listed (File bytes) names found dir e = cc

unlisted_dir : (n : Node) (names : List (List ℕ)) → n ≡ Dir → listing n names ≡ None → ⊥
unlisted_dir Missing names dir e = cc
unlisted_dir Dir names dir e = cc
unlisted_dir (File bytes) names dir e = cc

pub names_found : (p : PathValue) (s : State) (names : List (List ℕ)) → kind_at p s ≡ kinds.Dir
    → listing (node_in p s.tree) (names_in p s.tree) ≡ Some names → names_in p s.tree ≡ names
names_found p s names is e = listed (node_in p s.tree) (names_in p s.tree) names (directory_at p s is) e

pub has_names : (p : PathValue) (s : State) → kind_at p s ≡ kinds.Dir
    → listing (node_in p s.tree) (names_in p s.tree) ≡ None → ⊥
has_names p s is e = unlisted_dir (node_in p s.tree) (names_in p s.tree) (directory_at p s is) e

pub ruleset listings = (names_found, has_names)

-- ---- paths that don't overlap
no_overlap : (o : Option PathValue) → overlap_by o ≡ None → o ≡ None
no_overlap None e = refl
no_overlap (Some []) e = cc
no_overlap (Some (n ∷ rest)) e = cc

outside : (p q : PathValue) → overlap p q ≡ None → is_some (below p q) ≡ false
outside p q apart = ap is_some (no_overlap (below p q) apart)

distinct : (p q : PathValue) → overlap p q ≡ None → p ≢ q
distinct p q apart same =
    none_some [] (sym (no_overlap (below p q) apart) ∙ ap (below p) (sym same) ∙ below_itself p)

-- ---- paths that aren't /dev or /dev/null
first_false : (a b : Bool) → (a || b) ≡ false → a ≡ false
first_false true b e = e
first_false false b e = refl

last_false : (a b : Bool) → (a || b) ≡ false → b ≡ false
last_false true b e = absurd (true≢false e)
last_false false b e = e

not_dev : (q : PathValue) → is_device q ≡ false → path_eq (codes "dev" ∷ []) q ≡ false
unfolding is_device
not_dev q e = first_false (path_eq (codes "dev" ∷ []) q) (is_null q) e

pub not_null : (q : PathValue) → is_device q ≡ false → is_null q ≡ false
unfolding is_device
not_null q e = last_false (path_eq (codes "dev" ∷ []) q) (is_null q) e

-- nor is a path in a directory below /dev/null
not_below_null : (q : PathValue) (t : Tree) → IsLawfulTree t → is_device q ≡ false → node_in (parent_of q) t ≡ Dir
    → is_some (below null_path q) ≡ false
unfolding is_null
not_below_null q t lawful device above = go (below null_path q) refl
  where
    go : (o : Option PathValue) → below null_path q ≡ o → is_some o ≡ false
    go None e = refl
    go (Some []) e = sym (ap nothing_left e) ∙ not_null q device
    go (Some (n ∷ rest)) e =
        sym (ap is_some (ap (λ r. below null_path (parent_of r)) (below_split null_path q (n ∷ rest) e)
        ∙ below_append null_path (parent_of (n ∷ rest))))
        ∙ (told t lawful).apart (parent_of q) (dir_is_there (node_in (parent_of q) t) above)

-- nor above it, if it isn't the root
not_above_null : (q : PathValue) → q ≢ [] → is_device q ≡ false → is_some (below null_path q) ≡ false
    → is_some (below q null_path) ≡ false
not_above_null q root device free = go (below q null_path) refl
  where
    null_at : (q rest : PathValue) → null_path ≡ q ++ rest → q ≢ [] → path_eq (codes "dev" ∷ []) q ≡ false
        → is_some (below null_path q) ≡ false → ⊥
    null_at [] rest e root dev null = root refl
    null_at (x ∷ []) rest e root dev null =
        let same : codes "dev" ≡ x = cc in
        true≢false (ap (λ y. path_eq (codes "dev" ∷ []) (y ∷ [])) same ∙ dev)
    null_at (x ∷ y ∷ []) rest e root dev null =
        let same : null_path ≡ x ∷ y ∷ [] = cc in
        true≢false (ap (λ r. is_some (below null_path r)) same ∙ null)
    null_at (x ∷ y ∷ z ∷ q) rest e root dev null = cc

    go : (o : Option PathValue) → below q null_path ≡ o → is_some o ≡ false
    go None e = refl
    go (Some rest) e = absurd (null_at q rest (below_split q null_path rest e) root (not_dev q device) free)

-- ---- where a directory can be put
is_a_dir : (k : Kind) → no_directory k ≡ None → k ≡ kinds.Dir
is_a_dir kinds.Missing e = cc
is_a_dir kinds.Dir e = refl
is_a_dir kinds.File e = cc

no_names_left : (names : List (List ℕ)) → not_empty names ≡ None → names ≡ []
no_names_left [] e = refl
no_names_left (n ∷ names) e = cc

missing_at : (p : PathValue) (s : State) → kind_at p s ≡ kinds.Missing → is_dir (node_in p s.tree) ≡ false
unfolding kind_at
missing_at p s e = go (is_null p) (node_in p s.tree) e
  where
    go : (b : Bool) (n : Node) → if b then kinds.File else kind_of n ≡ kinds.Missing → is_dir n ≡ false
    go true n e = cc
    go false Missing e = refl
    go false Dir e = cc
    go false (File bytes) e = cc

-- a directory can be put at q
record TakesDir (q : PathValue) (t : Tree) : Type 0 where
  above : node_in (parent_of q) t ≡ Dir
  empty : names_in q t ≡ []

place_of : (q : PathValue) (s : State) → IsLawful s → (kind : Kind) → kind_at q s ≡ kind
    → no_dir_place kind q s ≡ None → TakesDir q s.tree
place_of q s l kinds.Missing is e = record {
  above = directory_at (parent_of q) s (is_a_dir (kind_at (parent_of q) s) e);
  empty = none_in_file q s l (missing_at q s is);
}
place_of q s l kinds.Dir is e = record {
  above = (told s.tree l.tree).parents q (dir_is_there (node_in q s.tree) (directory_at q s is));
  empty = no_names_left (names_in q s.tree) e;
}
place_of q s l kinds.File is e = cc

-- the root has children, since the source isn't the root
not_root : (p q : PathValue) (t : Tree) → IsLawfulTree t → node_in p t ≡ Dir → overlap p q ≡ None
    → names_in q t ≡ [] → q ≢ []
not_root [] q t lawful dir apart empty e = true≢false (outside [] q apart)
not_root (n ∷ rest) q t lawful dir apart empty e =
    dir_is_there (node_in (n ∷ rest) t) dir
    (unlisted t lawful [] n rest (ap (list_any (text_eq n)) (ap (λ k. names_in k t) (sym e) ∙ empty)))

can_move : (p q : PathValue) (s : State) → IsLawful s → node_in p s.tree ≡ Dir → is_device q ≡ false
    → overlap p q ≡ None → no_dir_place (kind_at q s) q s ≡ None → CanMove p q s.tree
can_move p q s l dir device apart none =
    let place = place_of q s l (kind_at q s) refl none in
    let free = not_below_null q s.tree l.tree device place.above in
    record {
      dir = dir;
      outside = outside p q apart;
      free = record {
        left = free;
        right = not_above_null q (not_root p q s.tree l.tree dir apart place.empty) device free;
      };
      parent = place.above;
      empty = place.empty;
    }

-- what was asked of the new path lets a directory be moved there
pub may_move : (old mid : Trace) (p q : PathValue) → Computes old mid (λ s. (s, no_dir_place (kind_at q s) q s)) None
    → Always (λ s. node_in p s.tree ≡ Dir) old → is_device q ≡ false → overlap p q ≡ None
    → Always (λ s. CanMove p q s.tree) mid
may_move old mid p q asked here device apart s l h law =
    let was = asked.means s l h in
    let same = ap (λ x. x.0) was in
    let lawful : IsLawful (reached old.notes s) = subst IsLawful (sym same) law in
    subst (λ (x : State). CanMove p q x.tree) same
    (can_move p q (reached old.notes s) lawful (here s l (asked.held s l h) lawful) device apart (ap (λ x. x.1) was))

-- ---- files
pub file_fits : (p : PathValue) (bytes : List ℕ) (s : State) → IsLawful s → node_in p s.tree ≡ File bytes
    → length bytes ≤ file_limit
file_fits p bytes s l file = subst (λ n. size_of n ≤ file_limit) file ((told s.tree l.tree).files p)

-- the old path has no children after the bytes were put at the new one
pub childless_after : (p q : PathValue) (bytes : List ℕ) (s t : State) → IsLawful t
    → t ≡ put_node q (File bytes) s → node_in p s.tree ≡ File bytes → overlap p q ≡ None → names_in p t.tree ≡ []
childless_after p q bytes s t l is file apart = none_in_file p t l
    (ap is_dir (ap (λ (x : State). node_in p x.tree) is
    ∙ node_put_apart q p (File bytes) s.tree (distinct p q apart) ∙ file))

-- a path that isn't a directory isn't above a file
not_above : (p q : PathValue) (bytes : List ℕ) (t : Tree) → IsLawfulTree t → node_in p t ≡ File bytes
    → overlap p q ≡ None → is_dir (node_in q t) ≡ false → is_some (below q p) ≡ false
not_above p q bytes t lawful file apart leaf = go (below q p) refl
  where
    go : (o : Option PathValue) → below q p ≡ o → is_some o ≡ false
    go None e = refl
    go (Some []) e = absurd (distinct p q apart (is_at q p e))
    go (Some (n ∷ rest)) e = absurd (file_is_there (node_in p t) bytes file
        (ap (λ k. node_in k t) (below_split q p (n ∷ rest) e) ∙ nothing_below t lawful q n rest leaf))

pub file_moved : (p q : PathValue) (bytes : List ℕ) (s : State) → IsLawful s → node_in p s.tree ≡ File bytes
    → overlap p q ≡ None → refusal (permit_of q 0 s) ≡ None
    → with_tree (moved p q) s ≡ put_node p Missing (put_node q (File bytes) s)
file_moved p q bytes s l file apart none =
    ap (λ t. with_tree (λ _. t) s) (moved_file p q bytes s.tree l.tree (record {
      left = outside p q apart;
      right = not_above p q bytes s.tree l.tree file apart leaf;
    }) file leaf)
  where
    leaf : is_dir (node_in q s.tree) ≡ false
    leaf = permit_no_dir (node_in q s.tree) (node_in (parent_of q) s.tree) 0 (granted (permit_of q 0 s) none)

pub ruleset moving_file = (granted, not_null, file_fits, childless_after, file_moved)
