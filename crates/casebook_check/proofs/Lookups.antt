-- The member at a key, in a value and in its data.
use Rattle.std.proofs.Common.{◌≡◌, ℕ, zero, suc, ◌<◌, length, get_or, List, [], ◌∷◌, Bool, true, false, cond}
use Rattle.std.proofs.Common.{Option, Some, None, option_map, bytes_eq, refl, sym, ap, ◌∙◌, arith}
use Rattle.std.specs.Prelude.{is_some}
use Rattle.std.specs.Borrow.{Bor}
use Rattle.std.proofs.lemmas.Slice.Eq.{bytes_eq-Decides}
use Rattle.json.specs.Json as json
use Rattle.json.specs.Find as find
use Rattle.json.specs.Value.{members_view, value_view}
use Rattle.json.specs.declared.value.Value.{Value}
use Rattle.serde_json.specs.Data.{Num, Data, Members, no_members, put}
use Rattle.serde_json.specs.Find.{get, get_member}
use Rattle.serde_json.specs.Read.{number_of}
use Rattle.retro_value.specs.Borrowed.{data_of, members_of, number_data}
use Rattle.retro_log.proofs.Puts.{get_put}

pub map_twice : {A B C : Type 0} (f : A → B) (g : B → C) (o : Option A)
    → option_map g (option_map f o) ≡ option_map (λ x. g (f x)) o
map_twice f g None = refl
map_twice f g (Some x) = refl

-- the first of two that is there
abbrev or_else : Option Data → Option Data → Option Data
or_else None other = other
or_else (Some d) other = Some d

or_nothing : (o : Option Data) → or_else o None ≡ o
or_nothing None = refl
or_nothing (Some d) = refl

same_bytes : (k l : List ℕ) → bytes_eq k l ≡ bytes_eq l k
same_bytes k l = at (bytes_eq k l) (bytes_eq l k) refl refl
  where
    at : (a b : Bool) → bytes_eq k l ≡ a → bytes_eq l k ≡ b → a ≡ b
    at true true p q = refl
    at false false p q = refl
    at true false p q =
        let e : bytes_eq l k ≡ true = (bytes_eq-Decides l k).1 (sym ((bytes_eq-Decides k l).0 p)) in absurd (cc)
    at false true p q =
        let e : bytes_eq k l ≡ true = (bytes_eq-Decides k l).1 (sym ((bytes_eq-Decides l k).0 q)) in absurd (cc)

later : (a : Option json.Json) (b : Bool) (j : json.Json) (g : Option Data)
    → or_else (option_map data_of a) (cond b (Some (data_of j)) g)
    ≡ or_else (option_map data_of (find.later_or a (cond b (Some j) None))) g
later None true j g = refl
later None false j g = refl
later (Some x) true j g = refl
later (Some x) false j g = refl

members_get : (k : List ℕ) (ms : json.Members) (found : Members)
    → get_member k (members_of ms found) ≡ or_else (option_map data_of (find.get_member k ms)) (get_member k found)
members_get k json.no_members found = refl
members_get k (json.member l j ms) found =
    members_get k ms (put l (data_of j) found)
    ∙ ap (or_else (option_map data_of (find.get_member k ms))) (get_put k l (data_of j) found)
    ∙ ap (λ b. or_else (option_map data_of (find.get_member k ms)) (cond b (Some (data_of j)) (get_member k found)))
    (same_bytes k l)
    ∙ later (find.get_member k ms) (bytes_eq l k) j (get_member k found)

no_member : (k : List ℕ) (n : Option Num) → get k (number_data n) ≡ None
no_member k None = refl
no_member k (Some n) = refl

pub get_of_value : (k : List ℕ) (j : json.Json) → get k (data_of j) ≡ option_map data_of (find.get k j)
get_of_value k json.null = refl
get_of_value k (json.boolean b) = refl
get_of_value k (json.number s) = no_member k (number_of s)
get_of_value k (json.string s) = refl
get_of_value k (json.array js) = refl
get_of_value k (json.object ms) = members_get k ms no_members ∙ or_nothing (option_map data_of (find.get_member k ms))

-- ---- a key of an object

later_there : (a b : Option json.Json) → is_some b ≡ true → is_some (find.later_or a b) ≡ true
later_there None b h = h
later_there (Some x) b h = refl

earlier_there : (a b : Option json.Json) → is_some a ≡ true → is_some (find.later_or a b) ≡ true
earlier_there None b h = absurd (cc)
earlier_there (Some x) b h = refl

found_member : {A : Type 0} (ms : List (Bor (List ℕ) × Value A)) (i : ℕ) (d : Bor (List ℕ) × Value A)
    → i < length ms → is_some (find.get_member (get_or ms i d).0.now (members_view ms)) ≡ true
found_member [] i d lt = absurd (omega arith)
found_member (m ∷ ms) zero d lt =
    let same : bytes_eq m.0.now m.0.now ≡ true = (bytes_eq-Decides m.0.now m.0.now).1 refl in
    later_there (find.get_member m.0.now (members_view ms)) _
    (ap (λ b. is_some (cond b (Some (value_view m.1)) None)) same)
found_member (m ∷ ms) (suc i) d lt =
    let below : i < length ms = omega arith in
    earlier_there (find.get_member (get_or ms i d).0.now (members_view ms)) _ (found_member ms i d below)

data_there : (o : Option json.Json) → is_some o ≡ true → is_some (option_map data_of o) ≡ true
data_there None h = h
data_there (Some j) h = refl

-- the key of a member is one that the object has
pub has_key : {A : Type 0} (ms : List (Bor (List ℕ) × Value A)) (i : ℕ) (d x : Bor (List ℕ) × Value A)
    → i < length ms → x ≡ get_or ms i d → is_some (get x.0.now (data_of (json.object (members_view ms)))) ≡ true
has_key ms i d x lt is =
    let there : is_some (find.get_member x.0.now (members_view ms)) ≡ true =
    rw is (found_member ms i d lt) in
    ap is_some (get_of_value x.0.now (json.object (members_view ms))) ∙ data_there (find.get_member x.0.now (members_view ms)) there
