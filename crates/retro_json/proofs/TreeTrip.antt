-- A lawful tree is read back from the value that it is written as.
use Rattle.std.proofs.Common.{◌≡◌, ◌∙◌, ℕ, ◌<◌, List, [], ◌∷◌, map, filter, Bool, true, false, ◌&&◌, Option, Some}
use Rattle.std.proofs.Common.{None, Ok}
use Rattle.std.proofs.Common.{length, nat_le, nat_lt, refl, sym, ap, T, arith}
use Rattle.std.specs.Prelude.{slice_index, suc, zero}
use Rattle.std.specs.Ordering.{is_lt, eq_by_cmp}
use Rattle.std.specs.List.{list_all}
use Rattle.std.specs.Result.{result_ok}
use Rattle.std.specs.FinMap as map
use Rattle.std.specs.FinMap.{entries_sorted, get-entries}
use Rattle.std.specs.FinMap.Entries.{find, is_sorted, below_all}
use Rattle.std.proofs.lemmas.Bool.{and_parts, and_from, ltb-true, lt-ltb, true≢false, false≢true}
use Rattle.hex.specs.Hex.{encode_lower, IsBytes}
use Rattle.hex.proofs.HexLemmas.{decode_of-encode_lower}
use Rattle.retro_tree.specs.Order.{path_cmp, path_total, path_exact}
use Rattle.retro_tree.specs.Path.{PathValue, is_root, parent_of, may_exist}
use Rattle.retro_tree.specs.Node.{node_of, is_dir, file_limit}
use Rattle.retro_tree.specs.Tree.{Tree as TreeValue, node_in}
use Rattle.retro_tree.specs.Lawful.{law_at, entry_passes, is_lawful_tree}
use Rattle.retro_tree.specs.declared.entry.Entry.{Entry}
use Rattle.retro_tree.specs.declared.entry.Entry.TheVariants.{Dir, File}
use Rattle.retro_tree.specs.declared.node.Node.{Node}
use Rattle.retro_tree.proofs.Small.{both_fst, both_snd, none_some, some_same, first_true, both_true}
use Rattle.retro_json.specs.declared.fault.Part.TheVariants.{Tree}
use Rattle.retro_json.specs.Keyed.{map_of}
use Rattle.retro_json.specs.TreePart.{bytes_in, row_of, root_entry, tree_of}
use Rattle.retro_json.specs.Values.{row_data, is_listed, tree_data}
use Rattle.retro_json.specs.NoNul.{have_no_nul, entry_without_nul, tree_without_nul}
use Rattle.retro_json.specs.Typed.{are_bytes, are_names, file_typed, entry_typed, tree_typed}
use Rattle.retro_json.proofs.Json.{item_list-items_of}
use Rattle.retro_json.proofs.KeyedTrip.{map_again}
use Rattle.retro_json.proofs.Listed.{every_again, all_both, map_unchanged}
use Rattle.retro_json.proofs.PathTrip.{path_again}

-- ---- bytes

pub are_bytes-from : (bytes : List ℕ) → ((i : ℕ) → slice_index bytes i < 256) → are_bytes bytes ≡ true
are_bytes-from [] h = refl
are_bytes-from (b ∷ bytes) h =
    and_from (nat_lt b 256) _ (lt-ltb b 256 (h zero)) (are_bytes-from bytes (λ i. h (suc i)))

is_bytes : (bytes : List ℕ) → are_bytes bytes ≡ true → IsBytes bytes
is_bytes [] h zero = omega arith
is_bytes [] h (suc i) = omega arith
is_bytes (b ∷ bytes) h zero = ltb-true b 256 (and_parts (nat_lt b 256) _ h).0
is_bytes (b ∷ bytes) h (suc i) = is_bytes bytes (and_parts (nat_lt b 256) _ h).1 i

pub hex_again : (bytes : List ℕ) → are_bytes bytes ≡ true → bytes_in (encode_lower bytes) ≡ Some bytes
hex_again bytes h = ap result_ok (decode_of-encode_lower bytes (is_bytes bytes h))

-- ---- the root comes first

not_root : (k p : PathValue) → T (is_lt (path_cmp k p)) → is_root p ≡ false
not_root [] [] h = absurd h
not_root (name ∷ k) [] h = absurd h
not_root k (name ∷ p) h = refl

above_root : (p : PathValue) → is_root p ≡ false → eq_by_cmp path_cmp [] p ≡ false
above_root [] h = absurd (true≢false h)
above_root (name ∷ p) h = refl

-- the entries above a path are listed, and the root isn't among them
all_listed : (k : PathValue) (es : List (PathValue × Entry)) → T (below_all path_cmp k es)
    → filter is_listed es ≡ es
all_listed k [] h = refl
all_listed k (e ∷ es) h =
    let listed : is_root e.0 ≡ false = not_root k e.0 (both_fst _ _ h) in
    let rest : filter is_listed es ≡ es = all_listed k es (both_snd _ _ h) in
    rw (listed, rest) refl

none_is_root : (k : PathValue) (es : List (PathValue × Entry)) → T (below_all path_cmp k es)
    → find path_cmp [] es ≡ None
none_is_root k [] h = refl
none_is_root k (e ∷ es) h =
    let other : eq_by_cmp path_cmp [] e.0 ≡ false = above_root e.0 (not_root k e.0 (both_fst _ _ h)) in
    rw other (none_is_root k es (both_snd _ _ h))

root_leads : (p : PathValue) (entry : Entry) (es : List (PathValue × Entry)) → T (below_all path_cmp p es)
    → find path_cmp [] ((p, entry) ∷ es) ≡ Some Dir
    → (p, entry) ∷ es ≡ root_entry ∷ filter is_listed ((p, entry) ∷ es)
root_leads [] entry es above found =
    λ i. ([], some_same entry Dir found i) ∷ sym (all_listed [] es above) i
root_leads (name ∷ p) entry es above found =
    absurd (none_some Dir (sym (none_is_root (name ∷ p) es above) ∙ found))

sorted_root_first : (es : List (PathValue × Entry)) → T (is_sorted path_cmp es) → find path_cmp [] es ≡ Some Dir
    → es ≡ root_entry ∷ filter is_listed es
sorted_root_first [] sorted found = absurd (none_some Dir found)
sorted_root_first (e ∷ es) sorted found = root_leads e.0 e.1 es (both_fst _ _ sorted) found

dir_found : (found : Option Entry) → is_dir (node_of found) ≡ true → found ≡ Some Dir
dir_found None h = absurd (false≢true h)
dir_found (Some Dir) h = refl
dir_found (Some (File bytes)) h = absurd (false≢true h)

root_first : (t : TreeValue) → is_lawful_tree t ≡ true
    → map.entries t ≡ root_entry ∷ filter is_listed (map.entries t)
unfolding is_lawful_tree node_in
root_first t lawful =
    sorted_root_first (map.entries t) (entries_sorted t)
    (sym (get-entries t []) ∙ dir_found (map.get t []) (first_true (is_dir (node_of (map.get t []))) _ lawful))

-- ---- rows

entry_fits : Entry → Bool
entry_fits Dir = true
entry_fits (File bytes) = nat_le (length bytes) file_limit

names_by_law : (p : PathValue) (entry : Entry) (above : Node) → law_at p (node_of (Some entry)) above ≡ true
    → are_names p ≡ true
unfolding may_exist
names_by_law [] entry above h = refl
names_by_law (name ∷ p) Dir above h = both_true _ _ (both_true (is_dir above) _ h)
names_by_law (name ∷ p) (File bytes) above h =
    both_true _ _ (first_true (may_exist (name ∷ p)) _ (both_true (is_dir above) _ h))

fits_by_law : (p : PathValue) (entry : Entry) (above : Node) → law_at p (node_of (Some entry)) above ≡ true
    → entry_fits entry ≡ true
unfolding entry_fits
fits_by_law p Dir above h = refl
fits_by_law [] (File bytes) above h = absurd (false≢true h)
fits_by_law (name ∷ p) (File bytes) above h =
    both_true (may_exist (name ∷ p)) _ (both_true (is_dir above) _ h)

written_row : (p : PathValue) (entry : Entry) → are_names p ≡ true → have_no_nul p ≡ true
    → file_typed entry ≡ true → entry_fits entry ≡ true → row_of (row_data (p, entry)) ≡ Ok (p, entry)
unfolding row_of row_data entry_fits
written_row p Dir names plain typed fits = rw (path_again Tree p names plain) refl
written_row p (File bytes) names plain typed fits =
    rw (path_again Tree p names plain, hex_again bytes typed, fits) refl

-- what is known of each row
passes : TreeValue → PathValue × Entry → Bool
passes t e = entry_passes t e && (entry_typed e && entry_without_nul e)

row_again : (t : TreeValue) (e : PathValue × Entry) → passes t e ≡ true → row_of (row_data e) ≡ Ok e
unfolding passes entry_passes
row_again t e h =
    let a = and_parts (entry_passes t e) _ h in
    let b = and_parts (entry_typed e) _ a.1 in
    let above = node_in (parent_of e.0) t in
    written_row e.0 e.1 (names_by_law e.0 e.1 above a.0) b.1 b.0 (fits_by_law e.0 e.1 above a.0)

all_pass : (t : TreeValue) → is_lawful_tree t ≡ true → list_all (entry_passes t) (map.entries t) ≡ true
unfolding is_lawful_tree
all_pass t lawful = both_true (is_dir (node_in [] t)) _ lawful

-- a test of all entries, of those that are listed
of_listed : (t : TreeValue) (test : PathValue × Entry → Bool) → is_lawful_tree t ≡ true
    → list_all test (map.entries t) ≡ true → list_all test (filter is_listed (map.entries t)) ≡ true
of_listed t test lawful h =
    (and_parts (test root_entry) _ (ap (list_all test) (sym (root_first t lawful)) ∙ h)).1

pub tree_again : (t : TreeValue) → is_lawful_tree t ≡ true → tree_typed t ≡ true → tree_without_nul t ≡ true
    → tree_of (tree_data t) ≡ Ok t
unfolding tree_of tree_data tree_typed tree_without_nul passes
tree_again t lawful typed plain =
    let es = filter is_listed (map.entries t) in
    let good : list_all (passes t) es ≡ true =
    all_both (entry_passes t) (λ e. entry_typed e && entry_without_nul e) es
    (of_listed t (entry_passes t) lawful (all_pass t lawful))
    (all_both entry_typed entry_without_nul es typed (of_listed t entry_without_nul lawful plain)) in
    let rows = every_again row_of row_data (λ e. e) (passes t) (row_again t) es good in
    let made : map_of path_cmp (root_entry ∷ es) ≡ Some t =
    ap (map_of path_cmp) (sym (root_first t lawful)) ∙ map_again path_total path_exact t in
    rw (item_list-items_of (map row_data es), rows, map_unchanged es, made, lawful) refl
