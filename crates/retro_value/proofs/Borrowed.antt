-- The data of a value is what `serde_json` makes of it, if its numbers are in range.
use Rattle.std.proofs.Common.{◌≡◌, ℕ, List, [], ◌∷◌, map, Bool, true, false, ◌&&◌, cond, Option, Some, None}
use Rattle.std.proofs.Common.{option_map, option_and_then, refl, ap, ◌∙◌}
use Rattle.std.specs.Prelude.{is_some}
use Rattle.json.specs.Json as json
use Rattle.json.specs.Find as find
use Rattle.json.specs.Value.{items_view, value_view}
use Rattle.json.specs.declared.value.Value.{Value}
use Rattle.serde_json.specs.Data.{Num, Data, number, array, object, Items, item, Members, no_members, put}
use Rattle.serde_json.specs.Find.{as_null, as_number, as_str, as_u64}
use Rattle.serde_json.specs.View.{items_of as array_items}
use Rattle.serde_json.specs.Read.{number_of, of_json, of_items as read_items, of_members as read_members}
use Rattle.retro_value.specs.Borrowed.{in_range, items_in_range, members_in_range}
use Rattle.retro_value.specs.Borrowed.{number_data, data_of, items_of, members_of, value_data}

-- a thing, if a test holds
abbrev pub only_if : {A : Type 0} → Bool → A → Option A
only_if holds x = cond holds (Some x) None

number_is : (n : Option Num) → option_map number n ≡ only_if (is_some n) (number_data n)
number_is None = refl
number_is (Some n) = refl

mapped : {A B : Type 0} (f : A → B) (holds : Bool) (x : A) → option_map f (only_if holds x) ≡ only_if holds (f x)
mapped f true x = refl
mapped f false x = refl

item_is : (a b : Bool) (d : Data) (ds : Items)
    → option_and_then (λ x. option_map (item x) (only_if b ds)) (only_if a d) ≡ only_if (a && b) (item d ds)
item_is true true d ds = refl
item_is true false d ds = refl
item_is false b d ds = refl

member_is : (a b : Bool) (d : Data) (rest : Data → Option Members) (ms : Members) → rest d ≡ only_if b ms
    → option_and_then rest (only_if a d) ≡ only_if (a && b) ms
member_is true b d rest ms e = e
member_is false b d rest ms e = refl

mutual
  pub of_json_is : (j : json.Json) → of_json j ≡ only_if (in_range j) (data_of j)
  of_json_is json.null = refl
  of_json_is (json.boolean b) = refl
  of_json_is (json.number s) = number_is (number_of s)
  of_json_is (json.string s) = refl
  of_json_is (json.array js) = ap (option_map array) (of_items_is js) ∙ mapped array (items_in_range js) (items_of js)
  of_json_is (json.object ms) =
      ap (option_map object) (of_members_is ms no_members)
      ∙ mapped object (members_in_range ms) (members_of ms no_members)

  of_items_is : (js : json.Items) → read_items js ≡ only_if (items_in_range js) (items_of js)
  of_items_is json.no_items = refl
  of_items_is (json.item j js) =
      rw (of_json_is j, of_items_is js) (item_is (in_range j) (items_in_range js) (data_of j) (items_of js))

  of_members_is : (ms : json.Members) (found : Members)
      → read_members ms found ≡ only_if (members_in_range ms) (members_of ms found)
  of_members_is json.no_members found = refl
  of_members_is (json.member k j ms) found =
      ap (option_and_then (λ d. read_members ms (put k d found))) (of_json_is j)
      ∙ member_is (in_range j) (members_in_range ms) (data_of j) (λ d. read_members ms (put k d found)) _
      (of_members_is ms (put k (data_of j) found))

pub of_json_in_range : (j : json.Json) → in_range j ≡ true → of_json j ≡ Some (data_of j)
of_json_in_range j e = of_json_is j ∙ ap (λ b. only_if b (data_of j)) e

pub of_json_out_of_range : (j : json.Json) → in_range j ≡ false → of_json j ≡ None
of_json_out_of_range j e = of_json_is j ∙ ap (λ b. only_if b (data_of j)) e

-- ---- looking into a value

no_text : (n : Option Num) → None ≡ as_str (number_data n)
no_text None = refl
no_text (Some n) = refl

pub text_is : (j : json.Json) → find.as_str j ≡ as_str (data_of j)
text_is json.null = refl
text_is (json.boolean b) = refl
text_is (json.number s) = no_text (number_of s)
text_is (json.string s) = refl
text_is (json.array js) = refl
text_is (json.object ms) = refl

not_null : (n : Option Num) → false ≡ is_some (as_null (number_data n))
not_null None = refl
not_null (Some n) = refl

pub null_is : (j : json.Json) → find.is_null j ≡ is_some (as_null (data_of j))
null_is json.null = refl
null_is (json.boolean b) = refl
null_is (json.number s) = not_null (number_of s)
null_is (json.string s) = refl
null_is (json.array js) = refl
null_is (json.object ms) = refl

pub unsigned_is : (n : Option Num) → option_and_then as_u64 n ≡ option_and_then as_u64 (as_number (number_data n))
unsigned_is None = refl
unsigned_is (Some n) = refl

pub items_are : {A : Type 0} (vs : List (Value A)) → items_of (items_view vs) ≡ array_items (map value_data vs)
items_are [] = refl
items_are (v ∷ vs) = ap (item (value_data v)) (items_are vs)
