-- The law of trees by one test at each path, and by its demands.
use Rattle.std.proofs.Common.{◌≡◌, ◌≢◌, ◌≤◌, true, false, not, List, [], ◌∷◌, ℕ, refl, ap, subst}
use Rattle.std.specs.Option.{is_some}
use Rattle.std.proofs.lemmas.Bool.{false≢true, le-leb}
use Rattle.retro_tree.specs.Name.{AllNames}
use Rattle.retro_tree.specs.Path.{PathValue, below, parent_of, null_path, may_exist}
use Rattle.retro_tree.specs.Node.{is_dir, size_of, file_limit}
use Rattle.retro_tree.specs.Tree.{Tree, node_in}
use Rattle.retro_tree.specs.Lawful.{law_at, IsLawfulTree, KeepsTreeLaw}
use Rattle.retro_tree.specs.declared.node.Node.{Node}
use Rattle.retro_tree.specs.declared.node.Node.TheVariants.{Missing, Dir, File}
use Rattle.retro_tree.proofs.Small.{first_true, both_true, and_true, not_true}
use Rattle.retro_tree.proofs.LawLemmas.{dir_above}
use Rattle.retro_tree.proofs.WholeLaw.{size_under_law}

dir_of : (n : Node) → is_dir n ≡ true → n ≡ Dir
dir_of Missing e = absurd (false≢true e)
dir_of Dir e = refl
dir_of (File bytes) e = absurd (false≢true e)

place_allowed : (name : List ℕ) (rest : PathValue) (node above : Node) → node ≢ Missing
    → law_at (name ∷ rest) node above ≡ true → may_exist (name ∷ rest) ≡ true
place_allowed name rest Missing above ne h = absurd (ne refl)
place_allowed name rest Dir above ne h = both_true (is_dir above) _ h
place_allowed name rest (File bytes) above ne h = first_true (may_exist (name ∷ rest)) _ (both_true (is_dir above) _ h)

pub told : (tree : Tree) → IsLawfulTree tree → KeepsTreeLaw tree
unfolding IsLawfulTree may_exist
told tree l = record {
  root = dir_of (node_in [] tree) (l []);
  parents = parents;
  apart = apart;
  names =
      names;
  files = files;
}
  where
    parents : (p : PathValue) → node_in p tree ≢ Missing → node_in (parent_of p) tree ≡ Dir
    parents [] ne = dir_of (node_in [] tree) (l [])
    parents (name ∷ rest) ne =
        dir_of (node_in (parent_of (name ∷ rest)) tree) (dir_above name rest (node_in (name ∷ rest) tree)
        (node_in (parent_of (name ∷ rest)) tree) ne (l (name ∷ rest)))

    allowed : (name : List ℕ) (rest : PathValue) → node_in (name ∷ rest) tree ≢ Missing
        → may_exist (name ∷ rest) ≡ true
    allowed name rest ne =
        place_allowed name rest (node_in (name ∷ rest) tree) (node_in (parent_of (name ∷ rest)) tree) ne
        (l (name ∷ rest))

    apart : (p : PathValue) → node_in p tree ≢ Missing → is_some (below null_path p) ≡ false
    apart [] ne = refl
    apart (name ∷ rest) ne =
        not_true _ (first_true (not (is_some (below null_path (name ∷ rest)))) _ (allowed name rest ne))

    names : (p : PathValue) → node_in p tree ≢ Missing → AllNames p
    names [] ne = refl
    names (name ∷ rest) ne = both_true (not (is_some (below null_path (name ∷ rest)))) _ (allowed name rest ne)

    files : (p : PathValue) → size_of (node_in p tree) ≤ file_limit
    files p = size_under_law p (node_in p tree) (node_in (parent_of p) tree) (l p)

dir_is_there : (n : Node) → n ≡ Dir → n ≢ Missing
dir_is_there n e m = cc

file_is_there : (n : Node) (bytes : List ℕ) → n ≡ File bytes → n ≢ Missing
file_is_there n bytes e m = cc

pub enough : (tree : Tree) → KeepsTreeLaw tree → IsLawfulTree tree
unfolding IsLawfulTree may_exist
enough tree k [] = ap is_dir k.root
enough tree k (name ∷ rest) = go (node_in (name ∷ rest) tree) refl
  where
    allowed : node_in (name ∷ rest) tree ≢ Missing → may_exist (name ∷ rest) ≡ true
    allowed ne = and_true _ _ (ap not (k.apart (name ∷ rest) ne)) (k.names (name ∷ rest) ne)

    go : (n : Node) → node_in (name ∷ rest) tree ≡ n
        → law_at (name ∷ rest) n (node_in (parent_of (name ∷ rest)) tree) ≡ true
    go Missing is = refl
    go Dir is =
        let ne = dir_is_there (node_in (name ∷ rest) tree) is in
        and_true _ _ (ap is_dir (k.parents (name ∷ rest) ne)) (allowed ne)
    go (File bytes) is =
        let ne = file_is_there (node_in (name ∷ rest) tree) bytes is in
        and_true _ _ (ap is_dir (k.parents (name ∷ rest) ne))
        (and_true _ _ (allowed ne) (le-leb _ _ (subst (λ n. size_of n ≤ file_limit) is (k.files (name ∷ rest)))))

pub ruleset tree_law = (told, enough)
