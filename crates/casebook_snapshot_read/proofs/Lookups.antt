-- The member at a key, in a value and in its data.
use Rattle.std.proofs.Common.{◌≡◌, ℕ, List, Bool, true, false, cond}
use Rattle.std.proofs.Common.{Option, Some, None, option_map, bytes_eq, refl, sym, ap, ◌∙◌}
use Rattle.std.specs.Prelude.{◌&&◌}
use Rattle.std.proofs.lemmas.Slice.Eq.{bytes_eq-Decides}
use Rattle.json.specs.Json as json
use Rattle.json.specs.Find as find
use Rattle.serde_json.specs.Data.{Num, Data, Members, no_members, put}
use Rattle.serde_json.specs.Find.{get, get_member}
use Rattle.serde_json.specs.Read.{number_of}
use Rattle.retro_value.specs.Borrowed.{data_of, members_of, number_data}
use Rattle.casebook_snapshot_read.specs.Members.{are_keys, is_key}
use Rattle.casebook_snapshot_read.proofs.Puts.{get_put, keys_put}

pub map_twice : {A B C : Type 0} (f : A → B) (g : B → C) (o : Option A)
    → option_map g (option_map f o) ≡ option_map (λ x. g (f x)) o
map_twice f g None = refl
map_twice f g (Some x) = refl

-- the first of two that is there
abbrev or_else : Option Data → Option Data → Option Data
or_else None other = other
or_else (Some d) other = Some d

or_nothing : (o : Option Data) → or_else o None ≡ o
or_nothing None = refl
or_nothing (Some d) = refl

same_bytes : (k l : List ℕ) → bytes_eq k l ≡ bytes_eq l k
same_bytes k l = at (bytes_eq k l) (bytes_eq l k) refl refl
  where
    at : (a b : Bool) → bytes_eq k l ≡ a → bytes_eq l k ≡ b → a ≡ b
    at true true p q = refl
    at false false p q = refl
    at true false p q =
        let e : bytes_eq l k ≡ true = (bytes_eq-Decides l k).1 (sym ((bytes_eq-Decides k l).0 p)) in absurd (cc)
    at false true p q =
        let e : bytes_eq k l ≡ true = (bytes_eq-Decides k l).1 (sym ((bytes_eq-Decides l k).0 q)) in absurd (cc)

later : (a : Option json.Json) (b : Bool) (j : json.Json) (g : Option Data)
    → or_else (option_map data_of a) (cond b (Some (data_of j)) g)
    ≡ or_else (option_map data_of (find.later_or a (cond b (Some j) None))) g
later None true j g = refl
later None false j g = refl
later (Some x) true j g = refl
later (Some x) false j g = refl

members_get : (k : List ℕ) (ms : json.Members) (found : Members)
    → get_member k (members_of ms found) ≡ or_else (option_map data_of (find.get_member k ms)) (get_member k found)
members_get k json.no_members found = refl
members_get k (json.member l j ms) found =
    members_get k ms (put l (data_of j) found)
    ∙ ap (or_else (option_map data_of (find.get_member k ms))) (get_put k l (data_of j) found)
    ∙ ap (λ b. or_else (option_map data_of (find.get_member k ms)) (cond b (Some (data_of j)) (get_member k found)))
    (same_bytes k l)
    ∙ later (find.get_member k ms) (bytes_eq l k) j (get_member k found)

no_member : (k : List ℕ) (n : Option Num) → get k (number_data n) ≡ None
no_member k None = refl
no_member k (Some n) = refl

pub get_of_value : (k : List ℕ) (j : json.Json) → get k (data_of j) ≡ option_map data_of (find.get k j)
get_of_value k json.null = refl
get_of_value k (json.boolean b) = refl
get_of_value k (json.number s) = no_member k (number_of s)
get_of_value k (json.string s) = refl
get_of_value k (json.array js) = refl
get_of_value k (json.object ms) = members_get k ms no_members ∙ or_nothing (option_map data_of (find.get_member k ms))

-- ---- keys of an object, one by one

-- whether the keys of members and of those before them are keys of a document
abbrev pub json_keys : json.Members → Bool
json_keys json.no_members = true
json_keys (json.member k j ms) = is_key k && json_keys ms

keys_of : (ms : json.Members) (found : Members) → are_keys (members_of ms found) ≡ json_keys ms && are_keys found
keys_of json.no_members found = refl
keys_of (json.member k j ms) found =
    keys_of ms (put k (data_of j) found) ∙ ap (λ b. json_keys ms && b) (keys_put k (data_of j) found)
    ∙ turned (json_keys ms) (is_key k) (are_keys found)
  where
    turned : (a b c : Bool) → a && (b && c) ≡ (b && a) && c
    turned true true c = refl
    turned true false c = refl
    turned false true c = refl
    turned false false c = refl

pub keys_of_members : (ms : json.Members) → are_keys (members_of ms no_members) ≡ json_keys ms
keys_of_members ms = keys_of ms no_members ∙ right (json_keys ms)
  where
    right : (b : Bool) → b && true ≡ b
    right true = refl
    right false = refl
