-- Rows of a recording as fields of a table.
use Rattle.std.specs.Prelude.{ℕ, List, [], ◌∷◌, ◌++◌, codes, decimal, map}
use Rattle.casebook_text.specs.SafeLine.{safe_bytes}
use Rattle.retro_tree.specs.Path.{PathValue}
use Rattle.casebook_view.specs.Rows.{RowValue}
use Rattle.casebook_view.specs.declared.path_write.PathWrite.{PathWrite}
use Rattle.casebook_view.specs.declared.path_write.WriteKind.{WriteKind}
use Rattle.casebook_view.specs.declared.path_write.WriteKind.TheVariants.{Put, Append, Remove}
use Rattle.casebook_about.specs.Labels.{name_words, time_words}
use Rattle.casebook_words.specs.Words.{path_words}
use Rattle.casebook_about.specs.declared.labels.Labels.{Labels}

abbrev pub write_sign : WriteKind → List ℕ
write_sign Put = codes "+"
write_sign Append = codes ">"
write_sign Remove = codes "-"

abbrev pub read_field : PathValue → List ℕ
read_field p = codes "=" ++ path_words p

abbrev pub write_field : PathWrite → List ℕ
write_field write = write_sign write.kind ++ path_words write.path

-- number, time, session, name of the session, text and output
abbrev pub head_fields : Labels → RowValue → List (List ℕ)
head_fields labels row =
    decimal row.number
    ∷ time_words row.number labels
    ∷ decimal row.session
    ∷ name_words row.session labels
    ∷ safe_bytes row.text
    ∷ safe_bytes row.output
    ∷ []

-- these, then a field for each path that is read and for each write
abbrev pub fields_of : Labels → RowValue → List (List ℕ)
fields_of labels row = head_fields labels row ++ map read_field row.read ++ map write_field row.wrote
