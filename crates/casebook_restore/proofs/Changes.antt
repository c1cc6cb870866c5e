-- Trees differ in each of their changed paths, so a plan has a row for each that is wanted.
use Rattle.std.proofs.Common.{◌≡◌, ◌≢◌, ◌∙◌, Bool, true, false, not, List, [], ◌∷◌, map, Some}
use Rattle.std.proofs.Common.{ap, refl, sym}
use Rattle.std.specs.Prelude.{if◌then◌else◌}
use Rattle.std.specs.List.{AllByRecursion, filter}
use Rattle.retro_path.specs.Order.{path_eq}
use Rattle.retro_path.specs.Path.{PathValue}
use Rattle.retro_tree.specs.Tree.{Tree, node_in}
use Rattle.retro_tree.specs.declared.node.Node.{Node}
use Rattle.retro_tree.specs.declared.node.Node.TheVariants as nodes
use Rattle.casebook_changes.specs.ChangedPaths.{AreChangedPaths, IsChange, change_at, path_in}
use Rattle.casebook_changes.specs.declared.changed_path.ChangedPath.{ChangedPath}
use Rattle.casebook_changes.specs.declared.changed_path.PathChange.{PathChange}
use Rattle.casebook_changes.specs.declared.changed_path.PathChange.TheVariants.{Added, Removed, Modified}
use Rattle.casebook_folder.specs.Changes.{differs, node_eq}
use Rattle.casebook_folder.proofs.Small.{path_refl, same_text}
use Rattle.std.proofs.lemmas.Bool.{false≢true}

-- ---- nodes

node_same : (x y : Node) → node_eq x y ≡ true → x ≡ y
node_same nodes.Missing nodes.Missing e = refl
node_same nodes.Missing nodes.Dir e = absurd (false≢true e)
node_same nodes.Missing (nodes.File y) e = absurd (false≢true e)
node_same nodes.Dir nodes.Missing e = absurd (false≢true e)
node_same nodes.Dir nodes.Dir e = refl
node_same nodes.Dir (nodes.File y) e = absurd (false≢true e)
node_same (nodes.File x) nodes.Missing e = absurd (false≢true e)
node_same (nodes.File x) nodes.Dir e = absurd (false≢true e)
node_same (nodes.File x) (nodes.File y) e = ap nodes.File (same_text x y e)

unlike : (change : PathChange) (x y : Node) → IsChange change x y → x ≢ y
unlike Added x y is e = is.1 (sym e ∙ is.0)
unlike Removed x y is e = is.0 (e ∙ is.1)
unlike Modified x y is e = is.2 e

changed_nodes : (change : PathChange) (x y : Node) → IsChange change x y → not (node_eq x y) ≡ true
changed_nodes change x y is = by_test (node_eq x y) refl
  where
    by_test : (b : Bool) → node_eq x y ≡ b → not b ≡ true
    by_test true e = absurd (unlike change x y is (node_same x y e))
    by_test false e = refl

-- ---- each path of a list has a change

abbrev pub HasChange : List ChangedPath → ChangedPath → Type 0
HasChange cs c = (change : PathChange) × (change_at c.path cs ≡ Some change)

has_more : (d : ChangedPath) (cs ds : List ChangedPath) → AllByRecursion (HasChange cs) ds
    → AllByRecursion (HasChange (d ∷ cs)) ds
has_more d cs [] all = tt
has_more d cs (c ∷ ds) all = (by_test (path_eq c.path d.path) all.0, has_more d cs ds all.1)
  where
    by_test : (b : Bool) → HasChange cs c
        → (change : PathChange) × ((if b then Some d.change else change_at c.path cs) ≡ Some change)
    by_test true has = (d.change, refl)
    by_test false has = has

has_all : (cs : List ChangedPath) → AllByRecursion (HasChange cs) cs
has_all [] = tt
has_all (c ∷ cs) = (
  (c.change, ap (λ b. if b then Some c.change else change_at c.path cs) (path_refl c.path)),
  has_more c cs cs (has_all cs),
)

-- ---- paths in which trees differ

abbrev pub Differ : Tree → Tree → ChangedPath → Type 0
Differ a b c = differs a b c.path ≡ true

all_differ : (a b : Tree) (changed : List ChangedPath) → AreChangedPaths a b changed → (cs : List ChangedPath)
    → AllByRecursion (HasChange changed) cs → AllByRecursion (Differ a b) cs
all_differ a b changed are [] all = tt
all_differ a b changed are (c ∷ cs) all = (
  changed_nodes all.0.0 (node_in c.path a) (node_in c.path b) ((are.exact c.path all.0.0).0 all.0.1),
  all_differ a b changed are cs all.1,
)

all_kept : (a b : Tree) (test : PathValue → Bool) (cs : List ChangedPath) → AllByRecursion (Differ a b) cs
    → filter (differs a b) (map path_in (filter (λ c. test c.path) cs)) ≡ map path_in (filter (λ c. test c.path) cs)
all_kept a b test [] all = refl
all_kept a b test (c ∷ cs) all = by_test (test c.path) (all_kept a b test cs all.1)
  where
    by_test : (wanted : Bool)
        → filter (differs a b) (map path_in (filter (λ c. test c.path) cs))
        ≡ map path_in (filter (λ c. test c.path) cs)
        → filter (differs a b)
        (map path_in (if wanted then c ∷ filter (λ c. test c.path) cs else filter (λ c. test c.path) cs))
        ≡ map path_in (if wanted then c ∷ filter (λ c. test c.path) cs else filter (λ c. test c.path) cs)
    by_test true rest =
        ap (λ (differ : Bool). if differ
        then c.path ∷ filter (differs a b) (map path_in (filter (λ c. test c.path) cs))
        else filter (differs a b) (map path_in (filter (λ c. test c.path) cs))) all.0
        ∙ ap (λ ps. c.path ∷ ps) rest
    by_test false rest = rest

pub all_are_planned : (a b : Tree) (test : PathValue → Bool) (changed : List ChangedPath)
    → AreChangedPaths a b changed
    → filter (differs a b) (map path_in (filter (λ c. test c.path) changed))
    ≡ map path_in (filter (λ c. test c.path) changed)
all_are_planned a b test changed are =
    all_kept a b test changed (all_differ a b changed are changed (has_all changed))
