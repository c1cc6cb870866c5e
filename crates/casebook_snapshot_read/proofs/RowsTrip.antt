-- Rows are read back from the values that they are written as.
use Rattle.std.proofs.Common.{◌≡◌, ◌∙◌, ◌==◌, ◌^◌, ◌+◌, ℕ, List, [], ◌∷◌, ◌++◌, Bool, true, false, not, ◌&&◌, Option}
use Rattle.std.proofs.Common.{Some, None, Ok, map, length, nat_le, nat_lt, refl, ap, ap₂, cond}
use Rattle.std.proofs.Common.{append-nil, append_assoc}
use Rattle.std.specs.Prelude.{ok_or}
use Rattle.std.specs.List.{list_all, list_any, slice_split}
use Rattle.std.specs.Str.{is_utf8}
use Rattle.std.proofs.lemmas.Bool.{and_parts, false≢true, not-true, or_parts}
use Rattle.serde_json.specs.Data.{Data, string}
use Rattle.retro_path.specs.Ascii.{slash}
use Rattle.retro_path.specs.Path.{PathValue, parent_of}
use Rattle.retro_path.specs.Slashed.{slashed}
use Rattle.retro_tree.specs.Name.{is_name}
use Rattle.retro_tree.specs.declared.entry.Entry.{Entry}
use Rattle.retro_tree.specs.declared.entry.Entry.TheVariants.{Dir, File}
use Rattle.retro_json.specs.NoNul.{have_no_nul}
use Rattle.retro_json.specs.PathText.{is_written_name, names_in, names_of_parts, path_in as whole_path, path_of}
use Rattle.retro_json.specs.Steps.{◌>>=◌}
use Rattle.retro_json.specs.TreePart.{row_of}
use Rattle.retro_json.specs.Typed.{are_bytes, are_names}
use Rattle.retro_json.specs.Values.{hex_data, number_data, path_text, row_data}
use Rattle.retro_json.specs.declared.fault.Part.TheVariants.{Tree}
use Rattle.retro_json.specs.declared.fault.Refusal.TheVariants.{WrongShape}
use Rattle.retro_json.proofs.Names.{not_empty, path_named}
use Rattle.retro_json.proofs.PathTrip.{path_again}
use Rattle.retro_json.proofs.TreeTrip.{hex_again}
use Rattle.casebook_snapshot.specs.declared.item.Row.{Row}
use Rattle.casebook_snapshot.specs.declared.reason.Reason.{Reason}
use Rattle.casebook_snapshot.specs.declared.reason.Reason.TheVariants as reasons
use Rattle.casebook_snapshot.specs.declared.snapshot.SkippedPath.{SkippedPath}
use Rattle.casebook_snapshot.proofs.Small.{last_of_child, parent_below}
use Rattle.casebook_snapshot_json.specs.Documents as written
use Rattle.casebook_snapshot_json.specs.Documents.{skipped_by, skipped_data}
use Rattle.casebook_snapshot_json.specs.Reasons.{reason_text}
use Rattle.casebook_snapshot_read.specs.Paths.{child_of_text, path_in}
use Rattle.casebook_snapshot_read.specs.ReadBack.{are_plain, attributes_are_read, attributes_fit, entry_fits}
use Rattle.casebook_snapshot_read.specs.ReadBack.{entry_is_read, skipped_is_read}
use Rattle.casebook_snapshot_read.specs.Reasons.{reason_named}
use Rattle.casebook_snapshot_read.specs.Rows.{attributes_row, both, name_in, number_in, odd_row, plain_row}
use Rattle.casebook_snapshot_read.specs.Rows.{rows_from, skipped_row, skipped_view, tree_row}
use Rattle.casebook_snapshot_read.specs.declared.fault.Part.{Part}

-- ---- lists

pub rows_again : {X A : Type 0} (part : Part) (row : Data → Option A) (g : X → Data) (h : X → A) (test : X → Bool)
    → ((x : X) → test x ≡ true → row (g x) ≡ Some (h x)) → (place : ℕ) (xs : List X) → list_all test xs ≡ true
    → rows_from part row place (map g xs) ≡ Ok (map h xs)
unfolding rows_from
rows_again part row g h test one place [] all = refl
rows_again part row g h test one place (x ∷ xs) all =
    let parts = and_parts (test x) (list_all test xs) all in
    rw (one x parts.0, rows_again part row g h test one (place + 1) xs parts.1) refl

-- ---- paths

by_names : (o : Option (List (List ℕ))) (p : PathValue) → (ok_or o (WrongShape Tree) >>= path_of Tree) ≡ Ok p
    → (n : List (List ℕ)) × ((o ≡ Some n) × (path_of Tree n ≡ Ok p))
by_names None p h = absurd (cc)
by_names (Some n) p h = (n, (refl, h))

path_parts : (p : PathValue) → are_names p ≡ true → have_no_nul p ≡ true
    → (ok_or (names_in (path_text p)) (WrongShape Tree) >>= path_of Tree) ≡ Ok p
unfolding whole_path
path_parts p names plain = path_again Tree p names plain

path_read : (p : PathValue) → are_plain p ≡ true → path_in (string (path_text p)) ≡ Some p
path_read p plain =
    let parts = and_parts (are_names p) (have_no_nul p) plain in
    let found = by_names (names_in (path_text p)) p (path_parts p parts.0 parts.1) in
    rw (found.1.0, found.1.1) refl

-- ---- the tree

tree_by : (p : PathValue) (entry : Entry) → are_plain p ≡ true → entry_fits entry ≡ true
    → tree_row (row_data (p, entry)) ≡ Some (p, entry)
unfolding row_of row_data
tree_by p Dir plain fits =
    let parts = and_parts (are_names p) (have_no_nul p) plain in
    rw (path_again Tree p parts.0 parts.1) refl
tree_by p (File bytes) plain fits =
    let parts = and_parts (are_names p) (have_no_nul p) plain in
    let limits = and_parts (are_bytes bytes) (nat_le (length bytes) 1048576) fits in
    rw (path_again Tree p parts.0 parts.1, hex_again bytes limits.0, limits.1) refl

pub tree_again : (e : PathValue × Row) → entry_is_read e ≡ true
    → tree_row (written.tree_row e) ≡ Some (e.0, e.1.entry)
tree_again e h =
    let parts = and_parts (are_plain e.0) (entry_fits e.1.entry) h in tree_by e.0 e.1.entry parts.0 parts.1

-- ---- modes and owners

number_read : (n end : ℕ) → nat_lt n end ≡ true → number_in end (number_data n) ≡ Some n
number_read n end h = ap (λ b. cond b (Some n) None) h

pub attributes_again : (e : PathValue × Row) → attributes_are_read e ≡ true
    → attributes_row (written.attributes_row e) ≡ Some (e.0, e.1.attributes)
attributes_again e h =
    let a = e.1.attributes in
    let parts = and_parts (are_plain e.0) (attributes_fit a) h in
    let mode = and_parts (nat_lt a.mode (2 ^ 12)) (nat_lt a.uid (2 ^ 32) && nat_lt a.gid (2 ^ 32)) parts.1 in
    let owner = and_parts (nat_lt a.uid (2 ^ 32)) (nat_lt a.gid (2 ^ 32)) mode.1 in
    rw (
      path_read e.0 parts.0,
      number_read a.mode (2 ^ 12) mode.0,
      number_read a.uid (2 ^ 32) owner.0,
      number_read a.gid (2 ^ 32) owner.1,
    ) refl

-- ---- what is skipped

reason_again : (r : Reason) → reason_named (reason_text r) ≡ Some r
reason_again reasons.Link = refl
reason_again reasons.Device = refl
reason_again reasons.Pipe = refl
reason_again reasons.Socket = refl
reason_again reasons.OtherFileSystem = refl
reason_again reasons.TooLarge = refl
reason_again reasons.OddName = refl
reason_again reasons.NameTooLong = refl
reason_again reasons.Unreadable = refl
reason_again reasons.Changing = refl
reason_again reasons.NullDevice = refl
reason_again reasons.Asked = refl

-- a text without slash is the front of the first part
cut_after : (name rest : List ℕ) (parts : List (List ℕ)) → list_any (λ b. b == slash) name ≡ false
    → slice_split (λ b. b == slash) rest ≡ [] ∷ parts → slice_split (λ b. b == slash) (name ++ rest) ≡ name ∷ parts
cut_after [] rest parts n h = h
cut_after (b ∷ name) rest parts n h =
    let apart = or_parts (b == slash) (list_any (λ c. c == slash) name) n in
    rw (apart.0, cut_after name rest parts apart.1 h) refl

cut_last : (name : List ℕ) → list_any (λ b. b == slash) name ≡ false → slice_split (λ b. b == slash) name ≡ name ∷ []
cut_last [] n = refl
cut_last (b ∷ name) n =
    let apart = or_parts (b == slash) (list_any (λ c. c == slash) name) n in
    rw (apart.0, cut_last name apart.1) refl

name_apart : (name : List ℕ) → is_name name ≡ true → list_any (λ b. b == slash) name ≡ false
unfolding is_name
name_apart name h =
    let rest = (and_parts (nat_le 1 (length name)) _ h).1 in
    let apart = (and_parts (nat_le (length name) 255) _ rest).1 in
    not-true (list_any (λ b. b == slash) name) (and_parts (not (list_any (λ b. b == slash) name)) _ apart).0

cut_child : (p : PathValue) (name : List ℕ) → are_names p ≡ true → list_any (λ b. b == slash) name ≡ false
    → slice_split (λ b. b == slash) (slashed p ++ slash ∷ name) ≡ [] ∷ (p ++ name ∷ [])
cut_child [] name h n = ap (λ (parts : List (List ℕ)). [] ∷ parts) (cut_last name n)
cut_child (m ∷ p) name h n =
    let a = and_parts (is_name m) (list_all is_name p) h in
    ap (λ (parts : List (List ℕ)). [] ∷ parts)
    (ap (slice_split (λ b. b == slash)) (append_assoc m (slashed p) (slash ∷ name))
    ∙ cut_after m (slashed p ++ slash ∷ name) (p ++ name ∷ []) (name_apart m a.0) (cut_child p name a.1 n))

without : (none dots slashes nul : Bool) → not none && not dots && not slashes && not nul ≡ true
    → (none ≡ false) × (slashes ≡ false)
without true dots slashes nul h = absurd (false≢true h)
without false true slashes nul h = absurd (false≢true h)
without false false true nul h = absurd (false≢true h)
without false false false nul h = (refl, refl)

-- a name that may be written isn't empty, and has no slash
written_parts : (name : List ℕ) → is_written_name name ≡ true
    → ((length name == 0) ≡ false) × (list_any (λ b. b == slash) name ≡ false)
unfolding is_written_name
written_parts name h = without _ _ _ _ h

has_bytes : (name : List ℕ) → is_name name ≡ true → (length name == 0) ≡ false
unfolding is_name
has_bytes name h = not_empty (length name) (and_parts (nat_le 1 (length name)) _ h).0

child_names : (p : PathValue) (name : List ℕ) → are_names p ≡ true → is_written_name name ≡ true
    → names_in (slashed p ++ slash ∷ name) ≡ Some (p ++ name ∷ [])
unfolding names_in
child_names [] name h w =
    let parts = written_parts name w in
    let taken : names_of_parts ([] ∷ name ∷ []) ≡ Some (name ∷ []) = rw parts.0 refl in
    ap names_of_parts (cut_child [] name h parts.1) ∙ taken
child_names (m ∷ p) name h w =
    let some = has_bytes m (and_parts (is_name m) (list_all is_name p) h).0 in
    let taken : names_of_parts ([] ∷ m ∷ (p ++ name ∷ [])) ≡ Some (m ∷ (p ++ name ∷ [])) = rw some refl in
    ap names_of_parts (cut_child (m ∷ p) name h (written_parts name w).1) ∙ taken

child_read : (p : PathValue) (name : List ℕ) → are_plain p ≡ true → is_written_name name ≡ true
    → child_of_text (written.child_text p name) ≡ Some (p, name)
child_read p name plain w =
    let parts = and_parts (are_names p) (have_no_nul p) plain in
    let parent : parent_of (p ++ name ∷ []) ≡ p = parent_below p name [] ∙ append-nil p in
    rw (child_names p name parts.0 w, parent, last_of_child p name, w, path_named Tree p parts.0 parts.1) refl

plain_again : (p : PathValue) (name : List ℕ) (r : Reason) → are_plain p ≡ true → is_written_name name ≡ true
    → skipped_row (written.plain_data p name (reason_text r)) ≡ Some ((p, name), r)
plain_again p name r plain w =
    let said : plain_row (string (written.child_text p name)) (string (reason_text r)) ≡ Some ((p, name), r) =
    ap₂ both (child_read p name plain w) (reason_again r) in
    said

odd_name_read : (name : List ℕ) → are_bytes name ≡ true → is_utf8 name ≡ false → is_written_name name ≡ true
    → name_in (hex_data name) ≡ Some name
odd_name_read name typed odd w = rw (hex_again name typed, odd, w) refl

odd_again : (p : PathValue) (name : List ℕ) (r : Reason) → are_plain p ≡ true → are_bytes name ≡ true
    → is_utf8 name ≡ false → is_written_name name ≡ true
    → skipped_row (written.odd_data p name (reason_text r)) ≡ Some ((p, name), r)
odd_again p name r plain typed odd w =
    let said : odd_row (string (path_text p)) (string (reason_text r)) (hex_data name) ≡ Some ((p, name), r) =
    ap₂ both (ap₂ both (path_read p plain) (odd_name_read name typed odd w)) (reason_again r) in
    said

pub skipped_again : (s : SkippedPath) → skipped_is_read s ≡ true → skipped_row (skipped_data s) ≡ Some (skipped_view s)
unfolding skipped_data
skipped_again s h = at (is_utf8 s.child.name.items) refl
  where
    at : (b : Bool) → is_utf8 s.child.name.items ≡ b → skipped_row (skipped_by b s) ≡ Some (skipped_view s)
    at true text =
        let parts = and_parts (are_plain s.child.parent) _ h in
        let name = and_parts (are_bytes s.child.name.items) (is_written_name s.child.name.items) parts.1 in
        plain_again s.child.parent s.child.name.items s.reason parts.0 name.1
    at false odd =
        let parts = and_parts (are_plain s.child.parent) _ h in
        let name = and_parts (are_bytes s.child.name.items) (is_written_name s.child.name.items) parts.1 in
        odd_again s.child.parent s.child.name.items s.reason parts.0 name.0 odd name.1
