-- Scripts of snapshots.
use Rattle.std.specs.Prelude.{ℕ, List}
use Rattle.casebook_folder_cli.specs.ScriptWords.{ScriptValue}
use Rattle.casebook_folder_cli.specs.Scripting.{IsScript, PartsValue}
use Rattle.casebook_script.specs.declared.fault.Table.{Table}
use Rattle.casebook_script.specs.declared.fault.Table.TheVariants as tables
use Rattle.casebook_script.specs.declared.fault.TableFault.{TableFault}
use Rattle.casebook_script.specs.declared.fault.TableFault.TheVariants as faults
use Rattle.casebook_repairs.specs.Documents.{AllDocuments}
use Rattle.casebook_repairs.specs.Inputs.{DocumentValue, IsDocument}

-- the files of which a script is made
pub record ScriptInputs : Type 0 where
  pub document : DocumentValue
  pub sessions : DocumentValue
  pub lines : DocumentValue

abbrev pub parts_of : ScriptInputs → PartsValue
parts_of inputs = record {
  document = inputs.document.bytes;
  sessions = inputs.sessions.bytes;
  lines = inputs.lines.bytes;
}

-- The files that are named are these.
pub record AreScriptInputs (at : AllDocuments) (names : ScriptValue) (inputs : ScriptInputs) : Type 0 where
  pub document : IsDocument at names.document inputs.document
  pub sessions : IsDocument at names.sessions inputs.sessions
  pub lines : IsDocument at names.lines inputs.lines

-- A text is the script of the files that are named.
pub record IsScriptOf (at : AllDocuments) (names : ScriptValue) (text : List ℕ) : Type 0 where
  pub inputs : ScriptInputs
  pub are_inputs : AreScriptInputs at names inputs
  pub is_script : IsScript (parts_of inputs) text

abbrev pub name_of_table : ScriptValue → Table → List ℕ
name_of_table names tables.Sessions = names.sessions
name_of_table names tables.Lines = names.lines

-- the name of the table that has a fault
abbrev pub table_name : ScriptValue → TableFault → List ℕ
table_name names faults.NoMem = names.lines
table_name names (faults.NotUtf8 table) = name_of_table names table
table_name names (faults.BadRow table row why) = name_of_table names table
