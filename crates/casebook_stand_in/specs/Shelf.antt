-- The shelf of a line: the files from which its stand-in copies.
use Rattle.std.specs.Prelude.{ℕ, ◌==◌, Bool, if◌then◌else◌, List, Option, Some, None, drop, length}
use Rattle.std.specs.Prelude.{nat_eq, take}
use Rattle.std.specs.List.{filter_map}
use Rattle.std.specs.Cmp.Lexicographic.{pointwise}
use Rattle.std.specs.FinMap as finmap
use Rattle.retro_tree.specs.Node.{bytes_in}
use Rattle.retro_tree.specs.Tree.{node_in}
use Rattle.retro_tree.specs.declared.cell.Cell.{Cell}
use Rattle.retro_tree.specs.declared.cell.Cell.TheVariants as cells
use Rattle.retro_tree.specs.declared.node.Node.TheVariants.{File}
use Rattle.retro_tree.specs.declared.value.Value.TheVariants as values
use Rattle.retro_tree.specs.declared.overlay_entry.OverlayEntry.{OverlayEntry}
use Rattle.retro_tree.specs.declared.overlay_entry.OverlayEntry.TheVariants as entries
use Rattle.retro_tree.specs.declared.state.State.{State}
use Rattle.casebook_stand_in.specs.Effect.{EffectValue}

-- whether bytes begin with others
abbrev pub begin_with : List ℕ → List ℕ → Bool
begin_with old bytes = pointwise nat_eq old (take (length old) bytes)

-- the bytes after those that a file had, if there are any
abbrev pub tail_of : List ℕ → List ℕ → Option (List ℕ)
tail_of old bytes = if length bytes == length old then None else Some (drop (length old) bytes)

-- What a file is given, by its bytes before and after: only the new bytes if it grew, nothing if it
-- is unchanged, and otherwise all bytes.
abbrev pub part_of : Option (List ℕ) → List ℕ → Option (List ℕ)
part_of None bytes = Some bytes
part_of (Some old) bytes = if begin_with old bytes then tail_of old bytes else Some bytes

-- what the file of a cell is given
abbrev pub shelved : State → Cell × OverlayEntry → Option (List ℕ)
shelved s (cells.At p, entries.Value (values.Node (File bytes))) =
    part_of (bytes_in (node_in p s.tree)) bytes
shelved s _ = None

-- the contents of the files on the shelf of a line, by the state before it, in the order of paths
abbrev pub shelf_of : EffectValue → State → List (List ℕ)
shelf_of effect s = filter_map (shelved s) (finmap.entries effect.cells)
