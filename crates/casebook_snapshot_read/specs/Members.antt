-- The members of a document's object: exactly the keys of a snapshot, and version 1.
use Rattle.std.specs.Prelude.{ℕ, ◌==◌, ◌&&◌, Bool, true, false, List, [], ◌∷◌, map, Option, Some, None}
use Rattle.std.specs.Prelude.{Result, Ok, bytes_eq, codes, ok_or, option_and_then}
use Rattle.std.specs.List.{list_any}
use Rattle.std.specs.Result.{result_ok}
use Rattle.serde_json.specs.Data.{Data, member, no_members}
use Rattle.serde_json.specs.Data as values
use Rattle.serde_json.specs.Find.{as_object, as_str, get}
use Rattle.retro_json.specs.Shape.{cells, unsigned_in}
use Rattle.retro_json.specs.declared.fault.Part.TheVariants as parts
use Rattle.retro_value.specs.Borrowed.{value_data}
use Rattle.casebook_snapshot_read.specs.Reads.{◌>>=◌, guard}
use Rattle.casebook_snapshot_read.specs.declared.fault.SnapshotFault.{SnapshotFault}
use Rattle.casebook_snapshot_read.specs.declared.fault.SnapshotFault.TheVariants.{NotASnapshot}
use Rattle.casebook_snapshot_read.specs.declared.members.Members.{Members}

abbrev pub keys : List (List ℕ)
keys =
    codes "attributes" ∷ codes "root" ∷ codes "skipped" ∷ codes "snapshot" ∷ codes "taken"
    ∷ codes "tree" ∷ []

abbrev pub is_key : List ℕ → Bool
is_key key = list_any (bytes_eq key) keys

-- whether each key is one of a document
abbrev pub are_keys : values.Members → Bool
are_keys no_members = true
are_keys (member key d ms) = is_key key && are_keys ms

abbrev pub has_keys : Option values.Members → Bool
has_keys None = false
has_keys (Some ms) = are_keys ms

-- whether a value is an object without other keys
abbrev pub has_only_keys : Data → Bool
has_only_keys d = has_keys (as_object d)

abbrev pub is_one : Option ℕ → Bool
is_one None = false
is_one (Some n) = n == 1

abbrev pub is_first : Data → Bool
is_first d = is_one (option_and_then unsigned_in (get (codes "snapshot") d))

abbrev pub list_at : List ℕ → Data → Result (List Data) SnapshotFault
list_at key d =
    ok_or (option_and_then (λ list. result_ok (cells parts.Tree list)) (get key d)) NotASnapshot

abbrev pub text_at : List ℕ → Data → Result (List ℕ) SnapshotFault
text_at key d = ok_or (option_and_then as_str (get key d)) NotASnapshot

-- the lists and texts of a document
pub record MembersView : Type 0 where
  pub attributes : List Data
  pub root : List ℕ
  pub skipped : List Data
  pub taken : List ℕ
  pub tree : List Data

-- what an object has at its keys; of a key that occurs twice the last value counts
abbrev pub members_of : Data → Result MembersView SnapshotFault
members_of d = do
  only ← guard (has_only_keys d && is_first d) NotASnapshot
  attributes ← list_at (codes "attributes") d
  root ← text_at (codes "root") d
  skipped ← list_at (codes "skipped") d
  taken ← text_at (codes "taken") d
  tree ← list_at (codes "tree") d
  Ok (record { attributes = attributes; root = root; skipped = skipped; taken = taken; tree = tree })

-- ---- values of the code

abbrev pub members_view : Members → MembersView
members_view m = record {
  attributes = map value_data m.attributes.now;
  root = m.root.now;
  skipped = map value_data m.skipped.now;
  taken = m.taken.now;
  tree = map value_data m.tree.now;
}
