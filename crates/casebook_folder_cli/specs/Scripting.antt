-- Scripts of snapshots and tables.
use Rattle.std.specs.Prelude.{◌≡◌, ℕ, List, Ok, Err}
use Rattle.retro_path.specs.Path.{PathValue}
use Rattle.retro_tree.specs.Tree.{Tree}
use Rattle.casebook_compare.specs.Comparison.{IsTreeOf}
use Rattle.casebook_script.specs.Scripts.{script_text_of}
use Rattle.casebook_script.specs.declared.fault.TableFault.{TableFault}
use Rattle.casebook_script.specs.declared.fault.TableFault.TheVariants as tables
use Rattle.casebook_snapshot.specs.declared.snapshot.Snapshot.{Snapshot}
use Rattle.casebook_snapshot_read.specs.Documents.{document_in}
use Rattle.casebook_snapshot_read.specs.declared.fault.SnapshotFault.{SnapshotFault}
use Rattle.casebook_snapshot_read.specs.declared.fault.SnapshotFault.TheVariants as documents
use Rattle.casebook_folder_cli.specs.Taking.{IsRead}
use Rattle.casebook_folder_cli.specs.declared.scripting.ScriptFault.{ScriptFault}
use Rattle.casebook_folder_cli.specs.declared.scripting.ScriptFault.TheVariants as faults
use Rattle.casebook_folder_cli.specs.declared.scripting.ScriptParts.{ScriptParts}

-- ---- faults

abbrev pub script_fault_of_document : SnapshotFault → ScriptFault
script_fault_of_document documents.NoMem = faults.NoMem
script_fault_of_document fault = faults.Document fault

abbrev pub script_fault_of_table : TableFault → ScriptFault
script_fault_of_table tables.NoMem = faults.NoMem
script_fault_of_table fault = faults.Table fault

-- ---- scripts

-- the bytes of the document of a snapshot and of the tables of sessions and of lines
pub record PartsValue : Type 0 where
  pub document : List ℕ
  pub sessions : List ℕ
  pub lines : List ℕ

abbrev pub parts_view : ScriptParts → PartsValue
parts_view parts =
    record { document = parts.document.now; sessions = parts.sessions.now; lines = parts.lines.now }

-- The tree of the snapshot that is in a document.
pub record IsTreeIn (document : List ℕ) (tree : Tree) : Type 0 where
  pub snapshot : Snapshot
  pub at : PathValue
  pub is_snapshot : IsRead document snapshot at
  pub is_tree : IsTreeOf snapshot.rows tree

-- A text is the script with the tree of a snapshot, and with the sessions and lines of the tables.
pub record IsScript (parts : PartsValue) (text : List ℕ) : Type 0 where
  pub tree : Tree
  pub is_tree : IsTreeIn parts.document tree
  pub is_text : script_text_of tree parts.sessions parts.lines ≡ Ok text

-- A table has a fault.
pub record IsBadTable (parts : PartsValue) (fault : TableFault) : Type 0 where
  pub tree : Tree
  pub is_tree : IsTreeIn parts.document tree
  pub is_fault : script_text_of tree parts.sessions parts.lines ≡ Err fault

-- there is no script: the document is none of a snapshot, or a table has a fault
abbrev pub IsNoScript : PartsValue → ScriptFault → Type 0
IsNoScript parts faults.NoMem = Unit {0}
IsNoScript parts (faults.Document fault) = document_in parts.document ≡ Err fault
IsNoScript parts (faults.Table fault) = IsBadTable parts fault
