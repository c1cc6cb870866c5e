-- What a line did at each path that it changed: whether it appended.
use Rattle.std.specs.Prelude.{Bool, false, ◌&&◌, List, length, nat_lt, Option, Some, None}
use Rattle.std.specs.Prelude.{if◌then◌else◌}
use Rattle.std.specs.List.{filter_map}
use Rattle.std.specs.FinMap as finmap
use Rattle.retro_path.specs.Path.{PathValue}
use Rattle.retro_tree.specs.Tree.{node_in}
use Rattle.retro_tree.specs.declared.cell.Cell.{Cell}
use Rattle.retro_tree.specs.declared.cell.Cell.TheVariants as cells
use Rattle.retro_tree.specs.declared.node.Node.{Node}
use Rattle.retro_tree.specs.declared.node.Node.TheVariants.{File}
use Rattle.retro_tree.specs.declared.overlay_entry.OverlayEntry.{OverlayEntry}
use Rattle.retro_tree.specs.declared.overlay_entry.OverlayEntry.TheVariants as entries
use Rattle.retro_tree.specs.declared.state.State.{State}
use Rattle.retro_tree.specs.declared.value.Value.TheVariants as values
use Rattle.casebook_needs.specs.declared.effect.Effect.{Effect}
use Rattle.casebook_needs.specs.declared.effect.Effect.TheVariants.{Append, Other}
use Rattle.casebook_stand_in.specs.Effect.{EffectValue}
use Rattle.casebook_stand_in.specs.Shelf.{begin_with}

-- Whether a file grew: the old bytes are at the front of the new ones, and there are more. What
-- wrote to an empty file may have replaced it, so that isn't growth.
abbrev pub grew : Node → Node → Bool
grew (File old) (File new) =
    nat_lt 0 (length old) && nat_lt (length old) (length new) && begin_with old new
grew _ _ = false

-- what a line did that left a node at a path
abbrev pub done_at : State → PathValue → Node → Effect
done_at s p node = if grew (node_in p s.tree) node then Append p else Other p

-- what it did at the path of a cell, if it is one
abbrev pub done_in : State → Cell × OverlayEntry → Option Effect
done_in s (cells.At p, entries.Value (values.Node node)) = Some (done_at s p node)
done_in s _ = None

-- what it did at all paths that it changed, in their order
unfoldable pub done_by : EffectValue → State → List Effect
done_by effect s = filter_map (done_in s) (finmap.entries effect.cells)
