-- The text of a document is read as the document's value.
use Rattle.std.proofs.Common.{◌≡◌, ◌∙◌, ℕ, zero, suc, ◌<◌, ◌≤◌, ◌^◌, ◌/◌, ◌%◌, ◌++◌, List, [], ◌∷◌, Bool, true}
use Rattle.std.proofs.Common.{false, ◌&&◌, cond, map, get_or, nat_lt, codes, decimal, Some, refl, sym, ap, subst, arith, append_assoc}
use Rattle.std.specs.Prelude.{IsUtf8, option_map}
use Rattle.std.specs.List.{filter, list_all}
use Rattle.std.specs.Str.{is_utf8}
use Rattle.std.proofs.lemmas.Bool.{and_from, and_parts, ltb-true}
use Rattle.std.proofs.lemmas.Fmt.{IsAscii-decimal}
use Rattle.std.proofs.lemmas.Str.{IsUtf8-append, IsUtf8-from_ascii, IsUtf8-from_is_utf8, is_utf8-from_IsUtf8}
use Rattle.hex.specs.Hex.{encode_lower, encode_with, lower_digits}
use Rattle.json.specs.Lex.{tokens}
use Rattle.json.specs.Print.{print, quoted}
use Rattle.json.proofs.Printed.Decimals.{IsNumber-decimal}
use Rattle.json.proofs.Printed.Utf8.{are_ascii, IsUtf8-are_ascii, IsUtf8-key, IsUtf8-quoted}
use Rattle.serde_json.specs.Data.{Data, Members, depth, items_depth, member, no_members, number, string}
use Rattle.serde_json.specs.Read.{max_depth, read}
use Rattle.serde_json.specs.View.{items_of}
use Rattle.serde_json.specs.Written.{comma_if, compact_text, members_text, outline}
use Rattle.serde_json.proofs.Numbers.{number_of-decimal}
use Rattle.serde_json.proofs.Texts.{print-outline}
use Rattle.retro_path.specs.Ascii.{slash}
use Rattle.retro_path.specs.Path.{PathValue}
use Rattle.retro_path.specs.Slashed.{slashed}
use Rattle.retro_tree.specs.declared.entry.Entry.{Entry}
use Rattle.retro_tree.specs.declared.entry.Entry.TheVariants.{Dir, File}
use Rattle.retro_json.specs.ReadBack.{IsReadBack}
use Rattle.retro_json.specs.Values.{entry_data, hex_data, number_data, path_text, row_data}
use Rattle.retro_json.proofs.ReadBack.{AreReadBack, array_read_back, comma_utf8, text_reads, text_tokens}
use Rattle.retro_log.proofs.Newline.{newline_reads, newline_utf8}
use Rattle.casebook_folder.specs.declared.attributes.Attributes.{Attributes}
use Rattle.casebook_snapshot.specs.declared.item.Row.{Row}
use Rattle.casebook_snapshot.specs.declared.reason.Reason.{Reason}
use Rattle.casebook_snapshot.specs.declared.reason.Reason.TheVariants as reasons
use Rattle.casebook_snapshot.specs.declared.snapshot.SkippedPath.{SkippedPath}
use Rattle.casebook_snapshot.specs.declared.snapshot.Snapshot.{Snapshot}
use Rattle.casebook_snapshot_json.specs.Documents.{attributes_data, attributes_row, attributes_rows, child_text}
use Rattle.casebook_snapshot_json.specs.Documents.{is_known, is_listed, skipped_by, skipped_data}
use Rattle.casebook_snapshot_json.specs.Documents.{skipped_rows, snapshot_data, snapshot_object, snapshot_text}
use Rattle.casebook_snapshot_json.specs.Documents.{tree_row, tree_rows}
use Rattle.casebook_snapshot_json.specs.Reasons.{reason_text}
use Rattle.casebook_snapshot_read.specs.ReadBack.{are_plain, are_texts, attributes_are_read, attributes_fit, IsReadable}

-- ---- texts, numbers and bytes

ascii : (text : List ℕ) → are_ascii text ≡ true → IsUtf8 text
ascii = IsUtf8-are_ascii

string_read_back : (text : List ℕ) → IsUtf8 text → IsReadBack (string text)
string_read_back text utf8 = record { value = refl; numbers = tt; utf8 = IsUtf8-quoted text utf8 }

number_read_back : (n : ℕ) → n < 2 ^ 64 → IsReadBack (number_data n)
number_read_back n fits = record {
  value = ap (option_map number) (number_of-decimal n fits);
  numbers = IsNumber-decimal n fits;
  utf8 = IsUtf8-from_ascii (decimal n) (IsAscii-decimal n fits);
}

one_ascii : (table : List ℕ) → are_ascii table ≡ true → (i : ℕ) → nat_lt (get_or table i 0) 128 ≡ true
one_ascii [] h zero = refl
one_ascii [] h (suc i) = refl
one_ascii (c ∷ table) h zero = (and_parts (nat_lt c 128) (are_ascii table) h).0
one_ascii (c ∷ table) h (suc i) = one_ascii table (and_parts (nat_lt c 128) (are_ascii table) h).1 i

hex_ascii : (bytes : List ℕ) → are_ascii (encode_lower bytes) ≡ true
unfolding encode_with
hex_ascii [] = refl
hex_ascii (b ∷ bytes) =
    and_from _ _ (one_ascii lower_digits refl (b / 16))
    (and_from _ _ (one_ascii lower_digits refl (b % 16)) (hex_ascii bytes))

hex_read_back : (bytes : List ℕ) → IsReadBack (hex_data bytes)
hex_read_back bytes = string_read_back (encode_lower bytes) (ascii (encode_lower bytes) (hex_ascii bytes))

-- ---- paths

slashed_utf8 : (p : PathValue) → are_texts p ≡ true → IsUtf8 (slashed p)
slashed_utf8 [] h = ascii [] refl
slashed_utf8 (name ∷ p) h =
    let parts = and_parts (is_utf8 name) (list_all is_utf8 p) h in
    IsUtf8-append (slash ∷ name) (slashed p)
    (IsUtf8-append (slash ∷ []) name (ascii (slash ∷ []) refl) (IsUtf8-from_is_utf8 name parts.0))
    (slashed_utf8 p parts.1)

path_utf8 : (p : PathValue) → are_texts p ≡ true → IsUtf8 (path_text p)
path_utf8 [] h = ascii (slash ∷ []) refl
path_utf8 (name ∷ p) h = slashed_utf8 (name ∷ p) h

path_read_back : (p : PathValue) → are_texts p ≡ true → IsReadBack (string (path_text p))
path_read_back p h = string_read_back (path_text p) (path_utf8 p h)

-- ---- rows

entry_read_back : (p : PathValue) (entry : Entry) → are_texts p ≡ true → IsReadBack (row_data (p, entry))
unfolding row_data
entry_read_back p Dir h = array_read_back (string (path_text p) ∷ []) (path_read_back p h, tt)
entry_read_back p (File bytes) h =
    array_read_back (string (path_text p) ∷ hex_data bytes ∷ []) (path_read_back p h, (hex_read_back bytes, tt))

attributes_read_back : (p : PathValue) (a : Attributes) → are_texts p ≡ true → attributes_fit a ≡ true
    → IsReadBack (attributes_data p a)
attributes_read_back p a h fits =
    let mode = and_parts (nat_lt a.mode (2 ^ 12)) (nat_lt a.uid (2 ^ 32) && nat_lt a.gid (2 ^ 32)) fits in
    let owner = and_parts (nat_lt a.uid (2 ^ 32)) (nat_lt a.gid (2 ^ 32)) mode.1 in
    let m = ltb-true a.mode (2 ^ 12) mode.0 in
    let u = ltb-true a.uid (2 ^ 32) owner.0 in
    let g = ltb-true a.gid (2 ^ 32) owner.1 in
    array_read_back
    (string (path_text p) ∷ number_data a.mode ∷ number_data a.uid ∷ number_data a.gid ∷ []) (
      path_read_back p h,
      (
        number_read_back a.mode (omega (arith, m)),
        (number_read_back a.uid (omega (arith, u)), (number_read_back a.gid (omega (arith, g)), tt)),
      ),
    )

reason_utf8 : (r : Reason) → IsUtf8 (reason_text r)
reason_utf8 reasons.Link = ascii (codes "link") refl
reason_utf8 reasons.Device = ascii (codes "device") refl
reason_utf8 reasons.Pipe = ascii (codes "pipe") refl
reason_utf8 reasons.Socket = ascii (codes "socket") refl
reason_utf8 reasons.OtherFileSystem = ascii (codes "other file system") refl
reason_utf8 reasons.TooLarge = ascii (codes "too large") refl
reason_utf8 reasons.OddName = ascii (codes "odd name") refl
reason_utf8 reasons.NameTooLong = ascii (codes "name too long") refl
reason_utf8 reasons.Unreadable = ascii (codes "unreadable") refl
reason_utf8 reasons.Changing = ascii (codes "changing") refl
reason_utf8 reasons.NullDevice = ascii (codes "null device") refl
reason_utf8 reasons.Asked = ascii (codes "asked") refl

child_utf8 : (p : PathValue) (name : List ℕ) → are_texts p ≡ true → is_utf8 name ≡ true → IsUtf8 (child_text p name)
child_utf8 p name h text =
    IsUtf8-append (slashed p) (slash ∷ name) (slashed_utf8 p h)
    (IsUtf8-append (slash ∷ []) name (ascii (slash ∷ []) refl) (IsUtf8-from_is_utf8 name text))

skipped_read_back : (s : SkippedPath) → are_texts s.child.parent ≡ true → IsReadBack (skipped_data s)
unfolding skipped_data
skipped_read_back s h = by (is_utf8 s.child.name.items) refl
  where
    by : (b : Bool) → is_utf8 s.child.name.items ≡ b → IsReadBack (skipped_by b s)
    by true text =
        let path = child_text s.child.parent s.child.name.items in
        array_read_back (string path ∷ string (reason_text s.reason) ∷ []) (
          string_read_back path (child_utf8 s.child.parent s.child.name.items h text),
          (string_read_back (reason_text s.reason) (reason_utf8 s.reason), tt),
        )
    by false odd =
        array_read_back
        (string (path_text s.child.parent) ∷ string (reason_text s.reason) ∷ hex_data s.child.name.items ∷ []) (
          path_read_back s.child.parent h,
          (string_read_back (reason_text s.reason) (reason_utf8 s.reason), (hex_read_back s.child.name.items, tt)),
        )

-- ---- lists of rows

all_read_back : {X : Type 0} (f : X → Data) (test : X → Bool) → ((x : X) → test x ≡ true → IsReadBack (f x))
    → (xs : List X) → list_all test xs ≡ true → AreReadBack (map f xs)
all_read_back f test one [] all = tt
all_read_back f test one (x ∷ xs) all =
    let parts = and_parts (test x) (list_all test xs) all in
    (one x parts.0, all_read_back f test one xs parts.1)

-- a test of all items, of those that are kept
pub all_kept : {X : Type 0} (test keep : X → Bool) (xs : List X) → list_all test xs ≡ true
    → list_all test (filter keep xs) ≡ true
all_kept test keep [] all = refl
all_kept {X = X} test keep (x ∷ xs) all =
    let parts = and_parts (test x) (list_all test xs) all in
    by parts.0 (all_kept test keep xs parts.1) (keep x)
  where
    by : test x ≡ true → list_all test (filter keep xs) ≡ true → (b : Bool)
        → list_all test (cond b (x ∷ filter keep xs) (filter keep xs)) ≡ true
    by here rest true = and_from (test x) _ here rest
    by here rest false = rest

tree_read_back : (es : List (PathValue × Row)) → list_all (λ e. are_texts e.0) es ≡ true → IsReadBack (tree_rows es)
unfolding tree_rows
tree_read_back es texts =
    array_read_back (map tree_row (filter is_listed es))
    (all_read_back tree_row (λ e. are_texts e.0) (λ e h. entry_read_back e.0 e.1.entry h) (filter is_listed es)
    (all_kept (λ e. are_texts e.0) is_listed es texts))

-- what is known of each row of modes and owners
is_text_row : PathValue × Row → Bool
is_text_row e = are_texts e.0 && attributes_are_read e

row_read_back : (e : PathValue × Row) → is_text_row e ≡ true → IsReadBack (attributes_row e)
unfolding is_text_row
row_read_back e h =
    let parts = and_parts (are_texts e.0) (attributes_are_read e) h in
    attributes_read_back e.0 e.1.attributes parts.0
    (and_parts (are_plain e.0) (attributes_fit e.1.attributes) parts.1).1

both_hold : (es : List (PathValue × Row)) → list_all (λ e. are_texts e.0) es ≡ true
    → list_all attributes_are_read es ≡ true → list_all is_text_row es ≡ true
unfolding is_text_row
both_hold [] a b = refl
both_hold (e ∷ es) a b =
    let t = and_parts (are_texts e.0) (list_all (λ x. are_texts x.0) es) a in
    let r = and_parts (attributes_are_read e) (list_all attributes_are_read es) b in
    and_from _ _ (and_from _ _ t.0 r.0) (both_hold es t.1 r.1)

known_read_back : (at : PathValue) (es : List (PathValue × Row)) → list_all (λ e. are_texts e.0) es ≡ true
    → list_all attributes_are_read es ≡ true → IsReadBack (attributes_rows at es)
unfolding attributes_rows
known_read_back at es texts fit =
    array_read_back (map attributes_row (filter (is_known at) es))
    (all_read_back attributes_row is_text_row row_read_back (filter (is_known at) es)
    (all_kept is_text_row (is_known at) es (both_hold es texts fit)))

skips_read_back : (ss : List SkippedPath) → list_all (λ s. are_texts s.child.parent) ss ≡ true
    → IsReadBack (skipped_rows ss)
unfolding skipped_rows
skips_read_back ss texts =
    array_read_back (map skipped_data ss)
    (all_read_back skipped_data (λ s. are_texts s.child.parent) skipped_read_back ss texts)

-- ---- the object

member_utf8 : (later : Bool) (k : List ℕ) (d : Data) (ms : Members) → IsUtf8 k → IsUtf8 (compact_text d)
    → IsUtf8 (members_text true ms) → IsUtf8 (members_text later (member k d ms))
member_utf8 later k d ms key value rest =
    subst IsUtf8 (sym (ap (λ text. comma_if later ++ text) (sym (append_assoc (quoted k) (58 ∷ []) _))))
    (IsUtf8-append (comma_if later) _ (comma_utf8 later)
    (IsUtf8-append (quoted k ++ 58 ∷ []) _ (IsUtf8-key k key)
    (IsUtf8-append (compact_text d) (members_text true ms) value rest)))

object_read_back : (attributes : Data) (root : List ℕ) (skipped : Data) (taken : List ℕ) (tree : Data)
    → IsReadBack attributes → IsUtf8 root → IsReadBack skipped → IsUtf8 taken → IsReadBack tree
    → IsReadBack (snapshot_object attributes root skipped taken tree)
object_read_back attributes root skipped taken tree a r s t e =
    let one = number_read_back 1 (omega arith) in
    let six = member (codes "tree") tree no_members in
    let five = member (codes "taken") (string taken) six in
    let four = member (codes "snapshot") (number_data 1) five in
    let three = member (codes "skipped") skipped four in
    let two = member (codes "root") (string root) three in
    record {
      value = rw (a.value, s.value, one.value, e.value) refl;
      numbers = (a.numbers, (tt, (s.numbers, (one.numbers, (tt, (e.numbers, tt))))));
      utf8 = IsUtf8-append (123 ∷ []) (members_text false (member (codes "attributes") attributes two))
          (ascii (123 ∷ []) refl)
          (member_utf8 false (codes "attributes") attributes two (ascii (codes "attributes") refl) a.utf8
          (member_utf8 true (codes "root") (string root) three (ascii (codes "root") refl) (IsUtf8-quoted root r)
          (member_utf8 true (codes "skipped") skipped four (ascii (codes "skipped") refl) s.utf8
          (member_utf8 true (codes "snapshot") (number_data 1) five (ascii (codes "snapshot") refl) one.utf8
          (member_utf8 true (codes "taken") (string taken) six (ascii (codes "taken") refl) (IsUtf8-quoted taken t)
          (member_utf8 true (codes "tree") tree no_members (ascii (codes "tree") refl) e.utf8
          (ascii (125 ∷ []) refl)))))));
    }

-- ---- few arrays

items_low : {X : Type 0} (f : X → Data) (n : ℕ) → ((x : X) → depth (f x) ≤ n) → (xs : List X)
    → items_depth (items_of (map f xs)) ≤ n
items_low f n one [] = omega arith
items_low f n one (x ∷ xs) = let a = one x in let b = items_low f n one xs in omega (arith, a, b)

row_low : (e : PathValue × Row) → depth (tree_row e) ≤ 1
unfolding row_data
row_low e = by (path_text e.0) e.1.entry
  where
    by : (path : List ℕ) (entry : Entry) → depth (entry_data path entry) ≤ 1
    by path Dir = omega arith
    by path (File bytes) = omega arith

skipped_low : (s : SkippedPath) → depth (skipped_data s) ≤ 1
unfolding skipped_data
skipped_low s = by (is_utf8 s.child.name.items)
  where
    by : (b : Bool) → depth (skipped_by b s) ≤ 1
    by true = omega arith
    by false = omega arith

snapshot_low : (s : Snapshot) (at : PathValue) (root taken : List ℕ) → depth (snapshot_data s at root taken) ≤ max_depth
unfolding snapshot_data tree_rows attributes_rows skipped_rows
snapshot_low s at root taken =
    let a = items_low attributes_row 1 (λ e. omega arith) (filter (is_known at) s.rows.entries) in
    let b = items_low skipped_data 1 skipped_low s.skipped.items in
    let c = items_low tree_row 1 row_low (filter is_listed s.rows.entries) in
    omega (arith, a, b, c)

-- ---- texts

snapshot_read_back : (s : Snapshot) (at : PathValue) (root taken : List ℕ) → IsReadable s at root taken
    → IsReadBack (snapshot_data s at root taken)
unfolding snapshot_data
snapshot_read_back s at root taken h =
    object_read_back (attributes_rows at s.rows.entries) root (skipped_rows s.skipped.items) taken
    (tree_rows s.rows.entries)
    (known_read_back at s.rows.entries h.row_texts h.attributes)
    (IsUtf8-from_is_utf8 root h.root_text)
    (skips_read_back s.skipped.items h.skipped_texts)
    (IsUtf8-from_is_utf8 taken h.taken_text)
    (tree_read_back s.rows.entries h.row_texts)

pub text_utf8 : (s : Snapshot) (at : PathValue) (root taken : List ℕ) → IsReadable s at root taken
    → is_utf8 (snapshot_text s at root taken) ≡ true
unfolding snapshot_text
text_utf8 s at root taken h =
    is_utf8-from_IsUtf8 _ (IsUtf8-append (compact_text (snapshot_data s at root taken)) (10 ∷ [])
    (snapshot_read_back s at root taken h).utf8 newline_utf8)

pub text_read : (s : Snapshot) (at : PathValue) (root taken : List ℕ) → IsReadable s at root taken
    → read (snapshot_text s at root taken) ≡ Some (snapshot_data s at root taken)
unfolding snapshot_text
text_read s at root taken h =
    let d = snapshot_data s at root taken in
    let back = snapshot_read_back s at root taken h in
    let same = text_tokens d back in
    let printed : compact_text d ≡ print (tokens (compact_text d)) =
    sym (print-outline d) ∙ ap print (sym same) in
    newline_reads (compact_text d) (outline d) printed same ∙ text_reads d (snapshot_low s at root taken) back
