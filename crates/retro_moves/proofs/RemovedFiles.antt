-- Removals of what isn't a directory, where it doesn't matter whether they are recursive.
use Rattle.std.proofs.Common.{◌≡◌, ◌≢◌, false, not, ap, ◌∙◌, sym, refl}
use Rattle.std.specs.Bool.{if◌then◌else◌}
use Rattle.retro_tree.specs.Node.{is_dir, kind_of}
use Rattle.retro_tree.specs.Path.{PathValue}
use Rattle.retro_tree.specs.Tree.{Tree, node_in}
use Rattle.retro_tree.specs.declared.kind.Kind.{Kind}
use Rattle.retro_tree.specs.declared.kind.Kind.TheVariants as kinds
use Rattle.retro_tree.specs.declared.node.Node.{Node}
use Rattle.retro_tree.specs.declared.node.Node.TheVariants.{Missing, Dir, File}
use Rattle.retro_tree.specs.declared.state.State.{State}
use Rattle.retro_local.specs.Trace.{Trace, reached}
use Rattle.retro_local.specs.Runs.{Computes}
use Rattle.retro_moves.specs.Trees.{removed, with_tree, without}
use Rattle.retro_moves.proofs.Removals.{removal}

is_no_dir : (node : Node) → kind_of node ≢ kinds.Dir → is_dir node ≡ false
is_no_dir Missing e = refl
is_no_dir Dir e = absurd (e refl)
is_no_dir (File bytes) e = refl

-- what isn't a directory is removed
removed_leaf : (p : PathValue) (t : Tree) → kind_of (node_in p t) ≢ kinds.Dir → removed false p t ≡ without p t
removed_leaf p t e = ap (λ b. if not b then without p t else t) (is_no_dir (node_in p t) e)

-- what a removal that isn't recursive computes
abbrev file_removal : PathValue → State → State × Kind
file_removal p s = (with_tree (removed false p) s, kind_of (node_in p s.tree))

-- it is the same for what isn't a directory
pub leaf_removed : (old new : Trace) (p : PathValue) (k : Kind) → k ≢ kinds.Dir → Computes old new (removal p) k
    → Computes old new (file_removal p) k
leaf_removed old new p k leaf all = record {
  held = all.held;
  means = λ s l h.
      let was = all.means s l h in
      let before = reached old.notes s in
      let is : kind_of (node_in p before.tree) ≡ k = ap (λ x. x.1) was in
      (λ i. (
        record before { tree = removed_leaf p before.tree (λ e. leaf (sym is ∙ e)) i },
        kind_of (node_in p before.tree),
      )) ∙ was;
}
