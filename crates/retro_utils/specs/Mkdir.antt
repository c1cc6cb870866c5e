-- `mkdir` (XCU mkdir).
use Rattle.std.specs.Prelude.{ℕ, List, [], ◌∷◌, Option, Some, codes}
use Rattle.retro_tree.specs.Path.{PathValue, parent_of}
use Rattle.retro_tree.specs.State.{put_node}
use Rattle.retro_tree.specs.declared.kind.Kind.{Kind}
use Rattle.retro_tree.specs.declared.kind.Kind.TheVariants as kinds
use Rattle.retro_tree.specs.declared.node.Node.TheVariants.{Dir}
use Rattle.retro_tree.specs.declared.state.State.{State}
use Rattle.retro_local.specs.Kinds.{kind_at}
use Rattle.retro_utils.specs.Operands.{Action, at_operand, in_turn}
use Rattle.retro_utils.specs.Outcomes.{made_unless, nothing_done, usage}
use Rattle.retro_utils.specs.Reasons.{no_directory}
use Rattle.retro_utils.specs.declared.done.Done.{Done}
use Rattle.retro_utils.specs.declared.reason.Reason.{Reason}
use Rattle.retro_utils.specs.declared.reason.Reason.TheVariants.{FileExists}

-- the reason why no directory can be made at a path, by the kind of the node there
abbrev pub no_room : Kind → PathValue → State → Option Reason
no_room kinds.Missing p s = no_directory (kind_at (parent_of p) s)
no_room kinds.Dir p s = Some FileExists
no_room kinds.File p s = Some FileExists

-- a directory made where nothing is, in a directory
unfoldable pub make_dir : Action
make_dir p s = made_unless (no_room (kind_at p s) p s) (put_node p Dir) s

-- a directory for each operand in turn
unfoldable pub mkdir : ℕ → List (List ℕ) → State → State × Done
mkdir sid [] s = (s, usage (codes "mkdir"))
mkdir sid (x ∷ xs) s = in_turn (codes "mkdir") (at_operand sid make_dir) (x ∷ xs) (nothing_done 0) s
