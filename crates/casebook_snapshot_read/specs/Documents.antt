-- What the document of a snapshot holds, or why a text is none (RFC 8259 for the JSON text).
use Rattle.std.specs.Prelude.{ℕ, List, map, Result, Ok, Err, if◌then◌else◌, ok_or, string_bytes}
use Rattle.std.specs.Result.{result_ok}
use Rattle.std.specs.Str.{is_utf8}
use Rattle.serde_json.specs.Data.{Data}
use Rattle.serde_json.specs.Read.{read}
use Rattle.retro_path.specs.Path.{PathValue}
use Rattle.retro_tree.specs.Tree.{Tree}
use Rattle.retro_tree.specs.declared.entry.Entry.{Entry}
use Rattle.retro_json.specs.Rows.{tree_of_rows}
use Rattle.casebook_snapshot.specs.declared.item.Row.{Row}
use Rattle.casebook_snapshot.specs.declared.snapshot.Snapshot.{Snapshot}
use Rattle.casebook_snapshot_read.specs.Joined.{root_of, rows_of}
use Rattle.casebook_snapshot_read.specs.Members.{MembersView, members_of}
use Rattle.casebook_snapshot_read.specs.Reads.{◌>>=◌}
use Rattle.casebook_snapshot_read.specs.Rows.{SkippedValue, attributes_row, rows_read, skipped_row}
use Rattle.casebook_snapshot_read.specs.Rows.{skipped_view, tree_row}
use Rattle.casebook_snapshot_read.specs.declared.document.SnapshotDocument.{SnapshotDocument}
use Rattle.casebook_snapshot_read.specs.declared.fault.Part.TheVariants.{Attributes, Skipped, Tree as Trees}
use Rattle.casebook_snapshot_read.specs.declared.fault.SnapshotFault.{SnapshotFault}
use Rattle.casebook_snapshot_read.specs.declared.fault.SnapshotFault.TheVariants.{LawlessTree, NotJson}

-- the directories and files in order of paths, and what is skipped in the document's order
pub record SnapshotView : Type 0 where
  pub rows : List (PathValue × Row)
  pub skipped : List SkippedValue

pub record DocumentView : Type 0 where
  pub snapshot : SnapshotView
  pub at : PathValue
  pub root : List ℕ
  pub taken : List ℕ

-- the tree of rows, as scripts have it
abbrev pub tree_of : List (PathValue × Entry) → Result Tree SnapshotFault
tree_of rows = ok_or (result_ok (tree_of_rows rows)) LawlessTree

-- a snapshot and the path of its folder
abbrev pub snapshot_in : MembersView → Result (SnapshotView × PathValue) SnapshotFault
snapshot_in m = do
  entries ← rows_read Trees tree_row m.tree
  attributes ← rows_read Attributes attributes_row m.attributes
  skipped ← rows_read Skipped skipped_row m.skipped
  tree ← tree_of entries
  at ← root_of attributes
  rows ← rows_of at attributes tree
  Ok (record { rows = rows; skipped = skipped }, at)

abbrev pub document_of : Data → Result DocumentView SnapshotFault
document_of d = do
  members ← members_of d
  (snapshot, at) ← snapshot_in members
  Ok (record { snapshot = snapshot; at = at; root = members.root; taken = members.taken })

-- the document that a text is
abbrev pub document_in_text : List ℕ → Result DocumentView SnapshotFault
document_in_text text = do
  d ← ok_or (read text) NotJson
  document_of d

-- the document that bytes are, as UTF-8, or the first fault
unfoldable pub document_in : List ℕ → Result DocumentView SnapshotFault
document_in bytes = if is_utf8 bytes then document_in_text bytes else Err NotJson

-- ---- values of the code

abbrev pub snapshot_view : Snapshot → SnapshotView
snapshot_view s = record { rows = s.rows.entries; skipped = map skipped_view s.skipped.items }

abbrev pub document_view : SnapshotDocument → DocumentView
document_view document = record {
  snapshot = snapshot_view document.snapshot;
  at = document.at;
  root = string_bytes document.root;
  taken = string_bytes document.taken;
}
