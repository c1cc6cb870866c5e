-- The prefixes up to `at`, which is a directory, are made, and those of the names that follow are
-- still to make.
use Rattle.std.proofs.Common.{◌≡◌, []}
use Rattle.retro_tree.specs.Path.{PathValue}
use Rattle.retro_tree.specs.Tree.{node_in}
use Rattle.retro_tree.specs.declared.node.Node.TheVariants.{Dir}
use Rattle.retro_local.specs.Runs.{Always, Continues, ExtendsTree}
use Rattle.retro_utils.specs.inner.MkdirSteps.{make_each}
use Rattle.retro_utils.proofs.Parents.{prefixes_after}
use Rattle.retro_utils.proofs.utilities.mkdir_parents.make_each.Given as goal

abbrev pub invariant-loop-prefix : goal.invariant-loop-prefix
invariant-loop-prefix g l = record {
  at : PathValue;
  names : PathValue;
  left : l.prefix-iterator.rest.items ≡ prefixes_after at names;
  extends : ExtendsTree l.initial.local l.local;
  directory : Always (λ s. node_in at s.tree ≡ Dir) l.local;
  continues : Continues l.initial.local l.local (make_each l.path [] l.path) (make_each l.path at names);
}
