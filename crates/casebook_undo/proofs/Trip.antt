-- Rows are read back from the undo file that they are written as.
use Rattle.std.proofs.Common.{◌≡◌, ℕ, ◌+◌, ◌^◌, List, [], ◌∷◌, map, true, Some, Ok, nat_le, refl, arith}
use Rattle.std.specs.List.{list_all}
use Rattle.std.specs.Prelude.{IsUtf8}
use Rattle.std.proofs.lemmas.Bool.{and_parts, ltb-true, le-leb, false≢true}
use Rattle.std.proofs.lemmas.Str.{is_utf8-from_IsUtf8}
use Rattle.serde_json.specs.Read.{read}
use Rattle.retro_path.specs.Path.{PathValue}
use Rattle.retro_json.specs.Typed.{are_bytes, are_names, is_u32}
use Rattle.retro_json.specs.Values.{number_data}
use Rattle.retro_json.proofs.Json.{item_list-items_of}
use Rattle.retro_json.proofs.TreeTrip.{hex_again}
use Rattle.casebook_folder.specs.declared.attributes.Attributes.{Attributes}
use Rattle.casebook_folder.specs.declared.found.Found.{Found}
use Rattle.casebook_folder.specs.declared.found.Found.TheVariants.{Missing, Dir, File, Blocked}
use Rattle.casebook_folder.specs.declared.row.Row.{Row}
use Rattle.casebook_undo.specs.Cells.{attributes_in, node_in, number_up_to, row_in}
use Rattle.casebook_undo.specs.Documents.{attributes_cells, has_mode, is_writable, is_writable_row, node_data}
use Rattle.casebook_undo.specs.Documents.{row_data, rows_data, undo_data}
use Rattle.casebook_undo.specs.Reading.{rows_from, undo_in, undo_of, undo_view}
use Rattle.casebook_undo.specs.inner.Typed.{attributes_typed, node_typed, row_typed}
use Rattle.casebook_undo.proofs.PathTrip.{path_again}

number_again : (limit n : ℕ) → nat_le n limit ≡ true → number_up_to limit (number_data n) ≡ Some n
number_again limit n h = rw h refl

id_fits : (n : ℕ) → is_u32 n ≡ true → nat_le n 4294967295 ≡ true
id_fits n h = let below = ltb-true n (2 ^ 32) h in le-leb n 4294967295 (omega (arith, below))

attributes_again : (a : Attributes) → has_mode a ≡ true → attributes_typed a ≡ true
    → attributes_in (attributes_cells a) ≡ Some a
attributes_again a fits typed =
    let ids = and_parts (is_u32 a.uid) (is_u32 a.gid) (and_parts (is_u32 a.mode) _ typed).1 in
    rw (fits, id_fits a.uid ids.0, id_fits a.gid ids.1) refl

node_again : (x : Found) → is_writable x ≡ true → node_typed x ≡ true → node_in (node_data x) ≡ Some x
unfolding node_in
node_again Missing fits typed = refl
node_again (Dir a) fits typed = rw (attributes_again a fits typed) refl
node_again (File bytes a) fits typed =
    let parts = and_parts (are_bytes bytes) (attributes_typed a) typed in
    rw (hex_again bytes parts.0, attributes_again a fits parts.1) refl
node_again (Blocked o) fits typed = absurd (false≢true fits)

row_again : (r : Row) → is_writable_row r ≡ true → row_typed r ≡ true → row_in (row_data r) ≡ Some r
unfolding row_in row_data
row_again r fits typed =
    let f = and_parts (is_writable r.before) (is_writable r.after) fits in
    let t = and_parts (are_names r.path) _ typed in
    let nodes = and_parts (node_typed r.before) (node_typed r.after) t.1 in
    rw (path_again r.path t.0, node_again r.before f.0 nodes.0, node_again r.after f.1 nodes.1) refl

rows_again : (place : ℕ) (rows : List Row) → list_all is_writable_row rows ≡ true
    → list_all row_typed rows ≡ true → rows_from place (map row_data rows) ≡ Ok rows
unfolding rows_from
rows_again place [] fits typed = refl
rows_again place (r ∷ rows) fits typed =
    let f = and_parts (is_writable_row r) _ fits in
    let t = and_parts (row_typed r) _ typed in
    rw (row_again r f.0 t.0, rows_again (place + 1) rows f.1 t.1) refl

undo_again : (at : PathValue) (rows : List Row) → are_names at ≡ true → list_all is_writable_row rows ≡ true
    → list_all row_typed rows ≡ true → undo_of (undo_data at rows) ≡ Ok (undo_view at rows)
unfolding undo_of undo_data rows_data
undo_again at rows names fits typed =
    rw (path_again at names, item_list-items_of (map row_data rows), rows_again 1 rows fits typed) refl

-- a text that is read as the value of rows is their undo file
pub text_again : (text : List ℕ) (at : PathValue) (rows : List Row) → IsUtf8 text
    → read text ≡ Some (undo_data at rows) → are_names at ≡ true → list_all is_writable_row rows ≡ true
    → list_all row_typed rows ≡ true → undo_in text ≡ Ok (undo_view at rows)
unfolding undo_in
text_again text at rows utf8 is names fits typed =
    rw (is_utf8-from_IsUtf8 text utf8, is) (undo_again at rows names fits typed)
