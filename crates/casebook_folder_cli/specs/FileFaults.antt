-- What is wrong with a file, in words.
use Rattle.std.specs.Prelude.{◌≡◌, ℕ, List, ◌++◌, Option, Some, None, Ok, Err, codes, decimal}
use Rattle.casebook_script.specs.declared.fault.RowFault.{RowFault}
use Rattle.casebook_script.specs.declared.fault.RowFault.TheVariants as rows
use Rattle.casebook_script.specs.declared.fault.TableFault.{TableFault}
use Rattle.casebook_script.specs.declared.fault.TableFault.TheVariants as tables
use Rattle.casebook_snapshot_read.specs.declared.fault.Part.TheVariants as parts
use Rattle.casebook_snapshot_read.specs.declared.fault.SnapshotFault.{SnapshotFault}
use Rattle.casebook_snapshot_read.specs.declared.fault.SnapshotFault.TheVariants as documents
use Rattle.casebook_tar.specs.declared.tar_error.TarFault.{TarFault}
use Rattle.casebook_tar.specs.declared.tar_error.TarFault.TheVariants as streams
use Rattle.casebook_tar_tree.specs.declared.tar_tree_error.TarTreeFault.{TarTreeFault}
use Rattle.casebook_tar_tree.specs.declared.tar_tree_error.TarTreeFault.TheVariants as trees
use Rattle.casebook_folder_cli.specs.declared.file_fault.FileFault.{FileFault}
use Rattle.casebook_folder_cli.specs.declared.file_fault.FileFault.TheVariants as faults

-- what is wrong with a stream, and the offset
abbrev pub stream_words : TarFault → List ℕ × ℕ
stream_words (streams.Truncated at) = (codes "not a tar stream: it ends in what begins at offset ", at)
stream_words (streams.BadChecksum at) = (codes "not a tar stream: no header at offset ", at)
stream_words (streams.BadNumber at) = (codes "not a tar stream: no number at offset ", at)
stream_words (streams.BadRecord at) = (codes "not a tar stream: no record at offset ", at)
stream_words (streams.HasData at) = (codes "a tar member with data that isn't a file at offset ", at)
stream_words (streams.SparseParts at) = (codes "a sparse file of many parts at offset ", at)
stream_words (streams.BadEnd at) = (codes "not a tar stream: no end at offset ", at)

-- what is wrong with a member, and how many members are before it
abbrev pub tree_words : TarTreeFault → List ℕ × ℕ
tree_words (trees.GoesUp i) = (codes "a name with a part .. after tar members: ", i)
tree_words (trees.LargeOwner i) = (codes "too large an owner after tar members: ", i)
tree_words (trees.HoldsMembers i) =
    (codes "no directory, but there is something in it, after tar members: ", i)
tree_words (trees.BelowOther i) = (codes "something in what is no directory after tar members: ", i)

-- what is wrong with a document, and the row, if it is one
abbrev pub document_words : SnapshotFault → List ℕ × Option ℕ
document_words documents.NoMem = (codes "out of memory", None)
document_words documents.NotJson = (codes "not a JSON text", None)
document_words documents.NotASnapshot =
    (codes "not a snapshot: \"snapshot\" isn't 1, or keys are wrong", None)
document_words (documents.BadRow parts.Tree place) =
    (codes "tree: not a directory or a file: row ", Some place)
document_words (documents.BadRow parts.Attributes place) =
    (codes "attributes: not a mode and an owner: row ", Some place)
document_words (documents.BadRow parts.Skipped place) =
    (codes "skipped: not a path and a reason: row ", Some place)
document_words documents.LawlessTree =
    (codes "tree: a path is there twice, or isn't in a directory", None)
document_words documents.OtherPaths = (codes "attributes: not those of the folder and its tree", None)

-- what is wrong with a row of a table
abbrev pub row_words : RowFault → List ℕ
row_words rows.Escape = codes "a backslash without t, n, r or a backslash after it: row "
row_words rows.Cells = codes "too few or too many cells: row "
row_words rows.Number = codes "no number of a session: row "
row_words rows.Directory = codes "no path from the root: row "
row_words rows.Variable = codes "no variable as NAME=VALUE: row "
row_words rows.TooLong = codes "too long a value: row "
row_words rows.VariableTwice = codes "a variable twice: row "
row_words rows.SessionTwice = codes "a session for the second time: row "
row_words rows.UnknownSession = codes "a session that isn't in the table of sessions: row "
row_words rows.TooManyLines = codes "too many lines: row "

-- what is wrong with a table, and the row, if it is one
abbrev pub table_words : TableFault → List ℕ × Option ℕ
table_words tables.NoMem = (codes "out of memory", None)
table_words (tables.NotUtf8 table) = (codes "not UTF-8", None)
table_words (tables.BadRow table row why) = (row_words why, Some row)

abbrev pub with_number : List ℕ → Option ℕ → List ℕ
with_number words None = words
with_number words (Some n) = words ++ decimal n

-- what is wrong with a file, in a line
unfoldable pub fault_line : FileFault → List ℕ
fault_line (faults.Stream fault) = (stream_words fault).0 ++ decimal (stream_words fault).1
fault_line (faults.Tree fault) = (tree_words fault).0 ++ decimal (tree_words fault).1
fault_line (faults.Document fault) = with_number (document_words fault).0 (document_words fault).1
fault_line (faults.Table fault) = with_number (table_words fault).0 (table_words fault).1
