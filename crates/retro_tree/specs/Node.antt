-- Nodes: how they grow, and whether they can be written to.
use Rattle.std.specs.Prelude.{ℕ, ◌+◌, Bool, true, false, nat_lt, if◌then◌else◌, List, ◌++◌, length, take, Option, Some}
use Rattle.std.specs.Prelude.{None}
use Rattle.retro_tree.specs.declared.entry.Entry.{Entry}
use Rattle.retro_tree.specs.declared.entry.Entry.TheVariants.{Dir as DirEntry, File as FileEntry}
use Rattle.retro_tree.specs.declared.node.Node.{Node}
use Rattle.retro_tree.specs.declared.node.Node.TheVariants.{Missing, Dir, File}
use Rattle.retro_tree.specs.declared.kind.Kind.{Kind}
use Rattle.retro_tree.specs.declared.kind.Kind.TheVariants as kinds
use Rattle.retro_tree.specs.declared.permit.Permit.{Permit}
use Rattle.retro_tree.specs.declared.permit.Permit.TheVariants as permits

-- the maximum size of a file, in bytes
abbrev pub file_limit : ℕ
file_limit = 1048576

-- the node of an entry, where a path without an entry is missing
abbrev pub node_of : Option Entry → Node
node_of None = Missing
node_of (Some DirEntry) = Dir
node_of (Some (FileEntry bytes)) = File bytes

abbrev pub is_dir : Node → Bool
is_dir Missing = false
is_dir Dir = true
is_dir (File bytes) = false

-- whether a node isn't missing
abbrev pub is_present : Node → Bool
is_present Missing = false
is_present Dir = true
is_present (File bytes) = true

abbrev pub kind_of : Node → Kind
kind_of Missing = kinds.Missing
kind_of Dir = kinds.Dir
kind_of (File bytes) = kinds.File

abbrev pub size_of : Node → ℕ
size_of Missing = 0
size_of Dir = 0
size_of (File bytes) = length bytes

-- the bytes of a file
abbrev pub bytes_in : Node → Option (List ℕ)
bytes_in Missing = None
bytes_in Dir = None
bytes_in (File bytes) = Some bytes

-- a node with bytes appended: a missing node becomes a file, and a directory stays unchanged
abbrev pub grown : List ℕ → Node → Node
grown bytes Missing = File bytes
grown bytes Dir = Dir
grown bytes (File old) = File (old ++ bytes)

-- an entry of a tree with bytes appended; a directory stays unchanged
abbrev pub entry_grown : List ℕ → Entry → Entry
entry_grown bytes DirEntry = DirEntry
entry_grown bytes (FileEntry old) = FileEntry (old ++ bytes)

-- a file shortened to n bytes, if it has more; a directory stays unchanged
abbrev pub entry_cut : ℕ → Entry → Entry
entry_cut n DirEntry = DirEntry
entry_cut n (FileEntry bytes) = FileEntry (take n bytes)

-- the kind of a node after growth
abbrev pub kind_grown : Kind → Kind
kind_grown kinds.Missing = kinds.File
kind_grown kinds.Dir = kinds.Dir
kind_grown kinds.File = kinds.File

-- whether a file of some size can be in a parent
abbrev pub permit_under : Node → ℕ → Permit
permit_under Missing size = permits.NoParent
permit_under (File bytes) size = permits.NotDir
permit_under Dir size = if nat_lt file_limit size then permits.TooLarge else permits.Yes

-- whether n more bytes can be written to a node, by the node at the parent
abbrev pub permit_at : Node → Node → ℕ → Permit
permit_at Dir parent n = permits.IsDir
permit_at Missing parent n = permit_under parent n
permit_at (File bytes) parent n = permit_under parent (length bytes + n)
