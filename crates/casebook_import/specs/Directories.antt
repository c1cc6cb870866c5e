-- The directories of sessions.
use Rattle.std.specs.Prelude.{ℕ, Bool, List, [], ◌∷◌, Option, Some, None, codes, if◌then◌else◌}
use Rattle.std.specs.FinMap as finmap
use Rattle.retro_path.specs.Path.{PathValue}
use Rattle.retro_tree.specs.Node.{is_dir}
use Rattle.retro_tree.specs.Tree.{node_in}
use Rattle.retro_tree.specs.declared.cell.Cell.TheVariants as cells
use Rattle.retro_tree.specs.declared.node.Node.{Node}
use Rattle.retro_tree.specs.declared.overlay_entry.OverlayEntry.{OverlayEntry}
use Rattle.retro_tree.specs.declared.overlay_entry.OverlayEntry.TheVariants as entries
use Rattle.retro_tree.specs.declared.state.State.{State}
use Rattle.retro_tree.specs.declared.value.Value.TheVariants as values
use Rattle.casebook_needs.specs.Named.{named_path}
use Rattle.casebook_stand_in.specs.Effect.{EffectValue}

-- /.casebook/elsewhere, which stands for a directory that no state has: one whose name isn't UTF-8,
-- that was removed, or that is reached by a link
unfoldable pub elsewhere : PathValue
elsewhere = codes ".casebook" ∷ codes "elsewhere" ∷ []

-- what is at a path after a line, by the entry of its effect and what was there before
abbrev pub node_after : Option OverlayEntry → Node → Node
node_after None before = before
node_after (Some (entries.Value (values.Node node))) before = node
node_after (Some (entries.Value (values.Cwd p))) before = before
node_after (Some (entries.Value (values.Text text))) before = before
node_after (Some (entries.Value (values.Status status))) before = before
node_after (Some (entries.Growth bytes)) before = before

-- whether a path is a directory after a line, by the state before it and its effect
abbrev pub is_directory_after : State → EffectValue → PathValue → Bool
is_directory_after s effect p =
    is_dir (node_after (finmap.get effect.cells (cells.At p)) (node_in p s.tree))

-- a path, if it is a directory after a line
abbrev pub directory_or : State → EffectValue → Option PathValue → PathValue
directory_or s effect None = elsewhere
directory_or s effect (Some p) = if is_directory_after s effect p then p else elsewhere

-- the directory of a session after a line, by its name
abbrev pub directory_in : State → EffectValue → List ℕ → PathValue
directory_in s effect name = directory_or s effect (named_path [] name)

-- a path, wherever it leads
abbrev pub path_or : Option PathValue → PathValue
path_or None = elsewhere
path_or (Some p) = p

-- the directory in which a session begins, by its name
abbrev pub first_directory : List ℕ → PathValue
first_directory name = path_or (named_path [] name)
