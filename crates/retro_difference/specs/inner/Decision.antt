-- Effects that only append bytes.
use Rattle.std.specs.Prelude.{◌≡◌, ℕ, Bool, true, false, List, [], ◌++◌, Option, Some, None}
use Rattle.retro_tree.specs.Overlay.{combined_value}
use Rattle.retro_tree.specs.declared.value.Value.{Value}
use Rattle.retro_tree.specs.declared.value.Value.TheVariants as values
use Rattle.retro_tree.specs.declared.node.Node.TheVariants as nodes
use Rattle.retro_tree.specs.declared.overlay_entry.OverlayEntry.{OverlayEntry}

-- the effect appends these bytes to every file; None claims nothing
abbrev pub Appends : Option (List ℕ) → Option OverlayEntry → Type 0
Appends None effect = Unit {0}
Appends (Some bytes) effect =
    (file : List ℕ) → combined_value effect (values.Node (nodes.File file)) ≡ values.Node (nodes.File (file ++ bytes))

-- whether one value is missing and the other an empty file
abbrev pub differ_by_empty_file : Value → Value → Bool
differ_by_empty_file (values.Node nodes.Missing) (values.Node (nodes.File [])) = true
differ_by_empty_file (values.Node (nodes.File [])) (values.Node nodes.Missing) = true
differ_by_empty_file was now = false
