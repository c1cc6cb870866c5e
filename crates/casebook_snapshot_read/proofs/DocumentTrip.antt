-- A snapshot is read back from its document.
use Rattle.std.proofs.Common.{◌≡◌, ◌∙◌, ℕ, List, [], ◌∷◌, true, map, Some, None, Ok, Err, refl, sym, ap, subst, T}
use Rattle.std.specs.Prelude.{Option, Result, is_some}
use Rattle.std.specs.FinMap as finite
use Rattle.std.specs.FinMap.{entries-from_sorted, find, get-entries}
use Rattle.std.specs.List.{filter, list_all}
use Rattle.std.specs.Result.{result_ok}
use Rattle.std.proofs.lemmas.Bool.{and_from, and_parts, false≢true}
use Rattle.retro_path.specs.Order.{path_cmp}
use Rattle.retro_path.specs.Path.{PathValue}
use Rattle.retro_tree.specs.Node.{is_dir, node_of}
use Rattle.retro_tree.specs.declared.entry.Entry.{Entry}
use Rattle.retro_tree.specs.declared.entry.Entry.TheVariants.{Dir, File}
use Rattle.retro_json.specs.NoNul.{entry_without_nul, have_no_nul, tree_without_nul}
use Rattle.retro_json.specs.Rows.{tree_of_rows}
use Rattle.retro_json.specs.TreePart.{row_of, tree_of}
use Rattle.retro_json.specs.Typed.{are_bytes, are_names, entry_typed, file_typed, tree_typed}
use Rattle.retro_json.specs.Values.{array_of, is_listed as in_tree, row_data, tree_data}
use Rattle.retro_json.specs.Worst.{every}
use Rattle.retro_json.specs.declared.fault.Refusal.{Refusal}
use Rattle.retro_json.proofs.Json.{item_list-items_of}
use Rattle.retro_json.proofs.Listed.{every_again}
use Rattle.retro_json.proofs.TreeTrip.{tree_again as value_again}
use Rattle.casebook_snapshot.specs.declared.item.Row.{Row}
use Rattle.casebook_snapshot.specs.declared.snapshot.Snapshot.{Snapshot}
use Rattle.casebook_snapshot_json.specs.Documents as written
use Rattle.casebook_snapshot_json.specs.Documents.{attributes_rows, is_known, is_listed, skipped_data, skipped_rows}
use Rattle.casebook_snapshot_json.specs.Documents.{snapshot_data, snapshot_text, tree_rows}
use Rattle.casebook_snapshot_read.specs.Documents.{document_in, document_of, snapshot_view}
use Rattle.casebook_snapshot_read.specs.Joined.{AreInOrder, is_folder}
use Rattle.casebook_snapshot_read.specs.ReadBack.{IsReadable, are_plain, attributes_are_read, entry_fits}
use Rattle.casebook_snapshot_read.specs.ReadBack.{entry_is_read, entry_of, skipped_is_read, tree_in}
use Rattle.casebook_snapshot_read.specs.Rows.{attributes_row, skipped_row, skipped_view, tree_row}
use Rattle.casebook_snapshot_read.specs.declared.fault.Part.TheVariants as parts
use Rattle.casebook_snapshot_read.proofs.JoinTrip.{attributes_of, filter_mapped, folder_first}
use Rattle.casebook_snapshot_read.proofs.JoinTrip.{rows_again as joined_again, sorted_mapped}
use Rattle.casebook_snapshot_read.proofs.RowsTrip.{attributes_again, rows_again, skipped_again, tree_again}
use Rattle.casebook_snapshot_read.proofs.TextTrip.{all_kept, text_read, text_utf8}

abbrev Rows : Type 0
Rows = List (PathValue × Row)

-- ---- the tree

pub entries_in : (es : Rows) → AreInOrder es → finite.entries (tree_in es) ≡ map entry_of es
entries_in es order =
    entries-from_sorted path_cmp (map entry_of es) (subst T (sym (sorted_mapped (λ r. r.entry) es)) order)

mapped_twice : (es : Rows) → map row_data (map entry_of es) ≡ map written.tree_row es
mapped_twice [] = refl
mapped_twice (e ∷ es) = λ i. written.tree_row e ∷ mapped_twice es i

-- the document's rows are those of its tree
data_of_tree : (es : Rows) → AreInOrder es
    → tree_data (tree_in es) ≡ array_of (map written.tree_row (filter is_listed es))
unfolding tree_data
data_of_tree es order =
    ap (λ found. array_of (map row_data (filter in_tree found))) (entries_in es order)
    ∙ ap (λ found. array_of (map row_data found)) (filter_mapped entry_of in_tree es)
    ∙ ap array_of (mapped_twice (filter is_listed es))

typed_entry : (entry : Entry) → entry_fits entry ≡ true → file_typed entry ≡ true
typed_entry Dir h = refl
typed_entry (File bytes) h = (and_parts (are_bytes bytes) _ h).0

all_typed : (es : Rows) → list_all entry_is_read es ≡ true → list_all entry_typed (map entry_of es) ≡ true
all_typed [] h = refl
all_typed (e ∷ es) h =
    let a = and_parts (entry_is_read e) (list_all entry_is_read es) h in
    let b = and_parts (are_plain e.0) (entry_fits e.1.entry) a.0 in
    and_from _ _ (typed_entry e.1.entry b.1) (all_typed es a.1)

all_plain : (es : Rows) → list_all entry_is_read es ≡ true → list_all entry_without_nul (map entry_of es) ≡ true
all_plain [] h = refl
all_plain (e ∷ es) h =
    let a = and_parts (entry_is_read e) (list_all entry_is_read es) h in
    let b = and_parts (are_plain e.0) (entry_fits e.1.entry) a.0 in
    let c = and_parts (are_names e.0) (have_no_nul e.0) b.0 in
    and_from _ _ c.1 (all_plain es a.1)

typed : (es : Rows) → AreInOrder es → list_all entry_is_read es ≡ true → tree_typed (tree_in es) ≡ true
unfolding tree_typed
typed es order read =
    ap (λ found. list_all entry_typed (filter in_tree found)) (entries_in es order)
    ∙ all_kept entry_typed in_tree (map entry_of es) (all_typed es read)

plain : (es : Rows) → AreInOrder es → list_all entry_is_read es ≡ true → tree_without_nul (tree_in es) ≡ true
unfolding tree_without_nul
plain es order read = ap (list_all entry_without_nul) (entries_in es order) ∙ all_plain es read

was_ok : {A : Type 0} (r : Result A Refusal) (x : A) → result_ok r ≡ Some x → r ≡ Ok x
was_ok (Ok y) x h = let same : y ≡ x = cc in ap Ok same
was_ok (Err e) x h = absurd (cc)

row_again : (e : PathValue × Row) → entry_is_read e ≡ true → row_of (written.tree_row e) ≡ Ok (entry_of e)
row_again e h = was_ok (row_of (written.tree_row e)) (entry_of e) (tree_again e h)

-- the rows of the document make its tree
made_again : (es : Rows) → AreInOrder es → tree_of (tree_data (tree_in es)) ≡ Ok (tree_in es)
    → list_all entry_is_read es ≡ true
    → tree_of_rows (map entry_of (filter is_listed es)) ≡ Ok (tree_in es)
unfolding tree_of
made_again es order made read =
    let ds = map written.tree_row (filter is_listed es) in
    let rows : every row_of ds ≡ Ok (map entry_of (filter is_listed es)) =
    every_again row_of written.tree_row entry_of entry_is_read row_again (filter is_listed es)
    (all_kept entry_is_read is_listed es read) in
    let whole : tree_of (array_of ds) ≡ Ok (tree_in es) = ap tree_of (sym (data_of_tree es order)) ∙ made in
    let steps : tree_of (array_of ds) ≡ tree_of_rows (map entry_of (filter is_listed es)) =
    rw (item_list-items_of ds, rows) refl in
    sym steps ∙ whole

-- ---- the folder

found_dir : (o : Option Entry) → is_dir (node_of o) ≡ true → is_some o ≡ true
found_dir None h = absurd (false≢true h)
found_dir (Some Dir) h = refl
found_dir (Some (File bytes)) h = refl

folder_found : (at : PathValue) (es : Rows) → AreInOrder es → is_folder at (tree_in es) ≡ true
    → is_some (find path_cmp at (map entry_of es)) ≡ true
folder_found at es order folder =
    let found = found_dir (finite.get (tree_in es) at) folder in
    sym (ap is_some (get-entries (tree_in es) at ∙ ap (find path_cmp at) (entries_in es order))) ∙ found

-- ---- the document

pub value_read : (s : Snapshot) (at : PathValue) (root taken : List ℕ) → IsReadable s at root taken
    → document_of (snapshot_data s at root taken)
    ≡ Ok (record { snapshot = snapshot_view s; at = at; root = root; taken = taken })
unfolding snapshot_data tree_rows attributes_rows skipped_rows
value_read s at root taken h =
    let es = s.rows.entries in
    let has = entries_in es h.order in
    let entries =
    rows_again parts.Tree tree_row written.tree_row entry_of entry_is_read tree_again 0 (filter is_listed es)
    (all_kept entry_is_read is_listed es h.entries) in
    let known =
    rows_again parts.Attributes attributes_row written.attributes_row attributes_of attributes_are_read
    attributes_again 0 (filter (is_known at) es) (all_kept attributes_are_read (is_known at) es h.attributes) in
    let skips =
    rows_again parts.Skipped skipped_row skipped_data skipped_view skipped_is_read skipped_again 0 s.skipped.items
    h.skipped in
    let tree = made_again es h.order
    (value_again (tree_in es) h.lawful (typed es h.order h.entries) (plain es h.order h.entries)) h.entries in
    rw (
      item_list-items_of (map written.attributes_row (filter (is_known at) es)),
      item_list-items_of (map skipped_data s.skipped.items),
      item_list-items_of (map written.tree_row (filter is_listed es)),
      entries,
      known,
      skips,
      tree,
      folder_first at es h.order (folder_found at es h.order h.folder),
      joined_again at es (tree_in es) has h.order h.folder h.placed,
    ) refl

pub document_again : (s : Snapshot) (at : PathValue) (root taken : List ℕ) → IsReadable s at root taken
    → document_in (snapshot_text s at root taken)
    ≡ Ok (record { snapshot = snapshot_view s; at = at; root = root; taken = taken })
unfolding document_in
document_again s at root taken h =
    rw (text_utf8 s at root taken h, text_read s at root taken h) (value_read s at root taken h)
