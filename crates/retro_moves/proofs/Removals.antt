-- What a removal computes, over traces.
use Rattle.std.proofs.Common.{◌≡◌, ℕ, false, List, [], ◌∷◌, ◌++◌, Option, Some, refl, sym, ap, ◌∙◌, subst}
use Rattle.retro_tree.specs.Path.{PathValue}
use Rattle.retro_tree.specs.Node.{kind_of, is_dir}
use Rattle.retro_tree.specs.Tree.{node_in}
use Rattle.retro_tree.specs.Ask.{listing, names_in}
use Rattle.retro_tree.specs.State.{put_node}
use Rattle.retro_tree.specs.Lawful.{IsLawful}
use Rattle.retro_tree.specs.declared.kind.Kind.{Kind}
use Rattle.retro_tree.specs.declared.kind.Kind.TheVariants as kinds
use Rattle.retro_tree.specs.declared.node.Node.{Node}
use Rattle.retro_tree.specs.declared.node.Node.TheVariants.{Missing, Dir, File}
use Rattle.retro_tree.specs.declared.state.State.{State}
use Rattle.retro_local.specs.Trace.{Trace, reached, AllHold}
use Rattle.retro_tree.proofs.MayMake.{none_in_file}
use Rattle.retro_local.specs.Runs.{Always, Computes, Transforms, Relates, ExtendsTree}
use Rattle.retro_moves.specs.Trees.{with_tree, without}
use Rattle.retro_moves.specs.inner.Removal.{IsThinned, OfTrees}
use Rattle.retro_moves.proofs.Without.{without_one, without_none}
use Rattle.retro_moves.proofs.Thinning.{thinned_start, thinned_step, thinned_names, thinned_end}

-- in each lawful state in which the notes hold, the state after them is lawful
abbrev pub KeepsLawful : Trace → Type 0
KeepsLawful trace = (s : State) → IsLawful s → AllHold trace.notes s → IsLawful (reached trace.notes s)

-- what a removal computes
abbrev pub removal : PathValue → State → State × Kind
removal p s = (with_tree (without p) s, kind_of (node_in p s.tree))

abbrev kind_at : PathValue → State → State × Kind
kind_at p s = (s, kind_of (node_in p s.tree))

abbrev names_at : PathValue → State → State × Option (List (List ℕ))
names_at p s = (s, listing (node_in p s.tree) (names_in p s.tree))

missing_of : (node : Node) → kind_of node ≡ kinds.Missing → node ≡ Missing
missing_of Missing e = refl
missing_of Dir e = cc
missing_of (File bytes) e = cc

dir_of : (node : Node) → kind_of node ≡ kinds.Dir → node ≡ Dir
dir_of Missing e = cc
dir_of Dir e = refl
dir_of (File bytes) e = cc

no_dir : (node : Node) → kind_of node ≡ kinds.File → is_dir node ≡ false
no_dir Missing e = refl
no_dir Dir e = cc
no_dir (File bytes) e = refl

listed : (ns ms : List (List ℕ)) → listing Dir ns ≡ Some ms → ns ≡ ms
listed ns ms e = cc

-- ---- what isn't a directory
pub missing_removed : (old new : Trace) (p : PathValue) → Computes old new (kind_at p) kinds.Missing
    → KeepsLawful old → Computes old new (removal p) kinds.Missing
missing_removed old new p asked law = record {
  held = asked.held;
  means = λ s l h.
      let was = asked.means s l h in
      let before = reached old.notes s in
      (λ i. (
        record before {
          tree = without_none p before.tree (law s l (asked.held s l h)).tree
              (missing_of _ (ap (λ x. x.1) was)) i;
        },
        kind_of (node_in p before.tree),
      )) ∙ was;
}

pub file_removed : (old mid new : Trace) (p : PathValue) → Computes old mid (kind_at p) kinds.File
    → Transforms mid new (put_node p Missing) → KeepsLawful old → Computes old new (removal p) kinds.File
file_removed old mid new p asked made law = record {
  held = λ s l h. asked.held s l (made.held s l h);
  means = λ s l h.
      let k = made.held s l h in
      let was = asked.means s l k in
      let before = reached old.notes s in
      (λ i. (
        record before {
          tree = sym (without_one p before.tree (law s l (asked.held s l k)).tree
              (no_dir _ (ap (λ x. x.1) was))) i;
        },
        kind_of (node_in p before.tree),
      ))
      ∙ (λ i. (put_node p Missing (was i).0, (was i).1))
      ∙ (λ i. (sym (made.means s l h) i, kinds.File));
}

pub file_childless : (old mid : Trace) (p : PathValue) → Computes old mid (kind_at p) kinds.File
    → Always (λ s. names_in p s.tree ≡ []) mid
file_childless old mid p asked s l h law =
    let was = asked.means s l h in
    none_in_file p (reached mid.notes s) law
    (ap (λ x. is_dir (node_in p x.0.tree)) (sym was) ∙ no_dir _ (ap (λ x. x.1) was))

-- ---- a directory
pub names_start : (old mid new : Trace) (p : PathValue) (ns : List (List ℕ))
    → Computes old mid (kind_at p) kinds.Dir → Computes mid new (names_at p) (Some ns) → KeepsLawful old
    → Relates (OfTrees (IsThinned p ns)) old new
names_start old mid new p ns asked names law = record {
  held = λ s l h. asked.held s l (names.held s l h);
  means = λ s l h.
      let k = names.held s l h in
      let was = asked.means s l k in
      let then' = names.means s l h in
      let before = reached old.notes s in
      let same : before ≡ reached new.notes s = ap (λ x. x.0) was ∙ ap (λ x. x.0) then' in
      let is : node_in p before.tree ≡ Dir = dir_of _ (ap (λ x. x.1) was) in
      let all : names_in p before.tree ≡ ns =
      listed _ ns ((λ i. listing (sym is i) (names_in p before.tree))
      ∙ ap (λ (x : State). listing (node_in p x.tree) (names_in p x.tree)) (ap (λ x. x.0) was)
      ∙ ap (λ x. x.1) then') in
      subst (OfTrees (IsThinned p ns) before) same (record {
        trees = subst (λ ms. IsThinned p ms before.tree before.tree) all
            (thinned_start p before.tree (law s l (asked.held s l k)).tree is);
        others = refl;
      });
}

pub names_step : (old mid new : Trace) (p : PathValue) (n : List ℕ) (left : List (List ℕ)) (k : Kind)
    → Relates (OfTrees (IsThinned p (n ∷ left))) old mid → Computes mid new (removal (p ++ n ∷ [])) k
    → Relates (OfTrees (IsThinned p left)) old new
names_step old mid new p n left k r g = record {
  held = λ s l h. r.held s l (g.held s l h);
  means = λ s l h.
      let was = r.means s l (g.held s l h) in
      let before = reached old.notes s in
      let now = reached mid.notes s in
      subst (OfTrees (IsThinned p left) before) (ap (λ x. x.0) (g.means s l h)) (record {
        trees = thinned_step p n left before.tree now.tree was.trees;
        others = λ i. record (was.others i) { tree = without (p ++ n ∷ []) now.tree };
      });
}

pub names_done : (old mid : Trace) (p : PathValue) → Relates (OfTrees (IsThinned p [])) old mid
    → Always (λ s. names_in p s.tree ≡ []) mid
names_done old mid p r s l h law =
    thinned_names p (reached old.notes s).tree (reached mid.notes s).tree (r.means s l h).trees

pub dir_removed : (old mid new : Trace) (p : PathValue) → Relates (OfTrees (IsThinned p [])) old mid
    → Transforms mid new (put_node p Missing) → Computes old new (removal p) kinds.Dir
dir_removed old mid new p r made = record {
  held = λ s l h. r.held s l (made.held s l h);
  means = λ s l h.
      let was = r.means s l (made.held s l h) in
      let before = reached old.notes s in
      let now = reached mid.notes s in
      let state : with_tree (without p) before ≡ put_node p Missing now =
      λ i. record (sym was.others i) { tree = sym (thinned_end p before.tree now.tree was.trees) i } in
      λ i. ((state ∙ sym (made.means s l h)) i, kind_of (was.trees.dir i));
}

-- ---- notes
pub extends_more : (a b c : Trace) → ExtendsTree a b → ExtendsTree b c → ExtendsTree a c
extends_more a b c h k = record {
  start = k.start ∙ h.start;
  later = λ base e. k.later base (h.later base e);
  tree = k.tree ∙ h.tree;
}
