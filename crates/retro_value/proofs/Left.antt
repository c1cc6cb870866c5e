-- The grammar of arrays and objects, an item or a member at a time.
use Rattle.std.proofs.Common.{◌≡◌, ℕ, zero, suc, ◌-◌, ◌<◌, ◌≤◌, Bool, true, false, List, [], ◌∷◌, length, Option, Some, None}
use Rattle.std.proofs.Common.{option_map, option_and_then, is_some, true≢false, refl, sym, ap, ◌∙◌, arith}
use Rattle.std.proofs.lemmas.Bool.{false≢true}
use Rattle.json.specs.Token.{Token}
use Rattle.json.specs.Json as json
use Rattle.json.specs.Reads.{token_of}
use Rattle.json.specs.declared.token.Token.{Token as Read}
use Rattle.json.specs.declared.token.Token.TheVariants as read
use Rattle.json.specs.Json.{Parse, parse_map, after_end_array, read_key, items_step, members_step, items, members, value}
use Rattle.json.proofs.Grammar.{left, Takes, items_end, items_more, members_end, members_no_key, members_more}
use Rattle.json.proofs.Grammar.{after_end_array-shorter, read_key-shorter, skip_value-shorter}
use Rattle.json.proofs.Grammar.{value-begin_array, value-begin_object, value_is}
use Rattle.serde_json.specs.Data.{Num, Data, null, boolean, string, number, array, object, Items, no_items, item}
use Rattle.serde_json.specs.Data.{Members, no_members, put}
use Rattle.serde_json.specs.Find.{as_array, as_object}
use Rattle.serde_json.specs.Read.{number_of, of_json, of_items, of_members, converted}
use Rattle.retro_value.specs.Borrowed.{in_range, data_of, number_data}
use Rattle.retro_value.specs.Left.{IsOf, is_whole, value_left, items_left, members_left}
use Rattle.retro_value.proofs.Borrowed.{of_json_in_range, of_json_out_of_range}

-- ---- what was converted

abbrev pick : {A : Type 0} → A → Option A → A
pick d None = d
pick d (Some a) = a

found : {B : Type 0} (r s : List Token) (x : Option B) (b : B)
    → option_map {U = B × List Token} (λ y. (y, r)) x ≡ Some (b, s) → (r ≡ s) × (x ≡ Some b)
found r s None b e = absurd (cc)
found r s (Some y) b e = let same = ap (pick (y, r)) e in (ap (λ p. p.1) same, ap (λ p. Some p.0) same)

pub converted_some : {A B : Type 0} (f : A → Option B) (o : Option (A × List Token)) (b : B) (r : List Token)
    → converted f o ≡ Some (b, r) → (a : A) × (o ≡ Some (a, r)) × (f a ≡ Some b)
converted_some f None b r e = absurd (cc)
converted_some f (Some p) b r e =
    let both = found p.1 r (f p.0) b e in (p.0, ap (λ s. Some (p.0, s)) both.0, both.1)

refused : {B : Type 0} (r : List Token) (x : Option B) → option_map {U = B × List Token} (λ y. (y, r)) x ≡ None → x ≡ None
refused r None e = refl
refused r (Some y) e = absurd (cc)

twice : {A B : Type 0} (g : A → B) (r : List Token) (x : Option A)
    → option_map (λ b. (b, r)) (option_map g x) ≡ parse_map g (option_map (λ a. (a, r)) x)
twice g r None = refl
twice g r (Some a) = refl

converted-array : (o : Option (json.Items × List Token))
    → converted of_json (parse_map json.array o) ≡ parse_map array (converted of_items o)
converted-array None = refl
converted-array (Some p) = twice array p.1 (of_items p.0)

converted-object : (o : Option (json.Members × List Token)) → converted of_json (parse_map json.object o)
    ≡ parse_map object (converted (λ ms. of_members ms no_members) o)
converted-object None = refl
converted-object (Some p) = twice object p.1 (of_members p.0 no_members)

with_item : (j : json.Json) (d : Data) → of_json j ≡ Some d → (o : Option (json.Items × List Token))
    → converted of_items (parse_map (json.item j) o) ≡ parse_map (item d) (converted of_items o)
with_item j d e None = refl
with_item j d e (Some p) = rw e (twice (item d) p.1 (of_items p.0))

without_item : (j : json.Json) → of_json j ≡ None → (o : Option (json.Items × List Token))
    → converted of_items (parse_map (json.item j) o) ≡ None
without_item j e None = refl
without_item j e (Some p) = rw e

with_member : (k : List ℕ) (j : json.Json) (d : Data) (old : Members) → of_json j ≡ Some d
    → (o : Option (json.Members × List Token)) → converted (λ ms. of_members ms old) (parse_map (json.member k j) o)
    ≡ converted (λ ms. of_members ms (put k d old)) o
with_member k j d old e None = refl
with_member k j d old e (Some p) = rw e

without_member : (k : List ℕ) (j : json.Json) (old : Members) → of_json j ≡ None
    → (o : Option (json.Members × List Token))
    → converted (λ ms. of_members ms old) (parse_map (json.member k j) o) ≡ None
without_member k j old e None = refl
without_member k j old e (Some p) = rw e

-- ---- the number of turns plays no part, if it is at least that of the tokens

nothing : (o : Option (json.Json × List Token)) → ((r : List Token) → left o ≡ Some r → length r < 0) → o ≡ None
nothing None h = refl
nothing (Some q) h = let never : ⊥ = omega (arith, h q.1 refl) in absurd never

module _ (p : Parse json.Json) (takes : Takes p) where
  next_items : (f g : Parse json.Items) (n : ℕ) (o : Option (json.Json × List Token))
      → ((r : List Token) → left o ≡ Some r → length r < n) → ((r : List Token) → length r < n → f r ≡ g r)
      → option_and_then (λ q. parse_map (json.item q.0) (f q.1)) o
      ≡ option_and_then (λ q. parse_map (json.item q.0) (g q.1)) o
  next_items f g n None fewer same = refl
  next_items f g n (Some q) fewer same = ap (parse_map (json.item q.0)) (same q.1 (fewer q.1 refl))

  items_turn : (f g : Parse json.Items) (ts : List Token) (o : Option (List Token))
      → ((r : List Token) → length r < length ts → f r ≡ g r) → items_step p f ts o ≡ items_step p g ts o
  items_turn f g ts (Some r) same = refl
  items_turn f g ts None same = next_items f g (length ts) (p ts) (takes ts) same

  items_of_none : (n : ℕ) → items p n [] ≡ None
  unfolding items
  items_of_none zero = refl
  items_of_none (suc n) = ap (option_and_then (λ q. parse_map (json.item q.0) (items p n q.1))) (nothing (p []) (takes []))

  items_same : (n m : ℕ) (ts : List Token) → length ts ≤ n → length ts ≤ m → items p n ts ≡ items p m ts
  unfolding items
  items_same n m [] le le' = items_of_none n ∙ sym (items_of_none m)
  items_same zero m (t ∷ ts) le le' = let never : ⊥ = omega arith in absurd never
  items_same (suc n) zero (t ∷ ts) le le' = let never : ⊥ = omega arith in absurd never
  items_same (suc n) (suc m) (t ∷ ts) le le' =
      items_turn (items p n) (items p m) (t ∷ ts) (after_end_array (t ∷ ts))
      (λ r fewer. items_same n m r (omega arith) (omega arith))

  next_members : (k : List ℕ) (f g : Parse json.Members) (n : ℕ) (o : Option (json.Json × List Token))
      → ((r : List Token) → left o ≡ Some r → length r < n) → ((r : List Token) → length r < n → f r ≡ g r)
      → option_and_then (λ q. parse_map (json.member k q.0) (f q.1)) o
      ≡ option_and_then (λ q. parse_map (json.member k q.0) (g q.1)) o
  next_members k f g n None fewer same = refl
  next_members k f g n (Some q) fewer same = ap (parse_map (json.member k q.0)) (same q.1 (fewer q.1 refl))

  members_turn : (f g : Parse json.Members) (ts : List Token) (o : Option (Option (List ℕ) × List Token))
      → read_key ts ≡ o → ((r : List Token) → length r < length ts → f r ≡ g r)
      → option_and_then (λ q. members_step p f q.0 q.1) o ≡ option_and_then (λ q. members_step p g q.0 q.1) o
  members_turn f g ts None e same = refl
  members_turn f g ts (Some (None, s)) e same = refl
  members_turn f g ts (Some (Some k, s)) e same =
      next_members k f g (length s) (p s) (takes s)
      (λ r fewer. same r (omega (arith, read_key-shorter ts (Some k) s e)))

  members_same : (n m : ℕ) (ts : List Token) → length ts ≤ n → length ts ≤ m → members p n ts ≡ members p m ts
  unfolding members
  members_same zero zero ts le le' = refl
  members_same zero (suc m) [] le le' = refl
  members_same zero (suc m) (t ∷ ts) le le' = let never : ⊥ = omega arith in absurd never
  members_same (suc n) zero [] le le' = refl
  members_same (suc n) zero (t ∷ ts) le le' = let never : ⊥ = omega arith in absurd never
  members_same (suc n) (suc m) ts le le' =
      members_turn (members p n) (members p m) ts (read_key ts) refl
      (λ r fewer. members_same n m r (omega arith) (omega arith))

-- ---- the items of an array

some_left : {A : Type 0} (x : A) (xs : List A) (ys : List A) → ys ≡ x ∷ xs → 0 < length ys
some_left x xs ys e = omega (arith, ap length e)

pub item_read : (depth : ℕ) (ts r : List Token) (d : Data) → after_end_array ts ≡ None
    → value_left depth ts ≡ Some (d, r) → items_left depth ts ≡ parse_map (item d) (items_left depth r)
item_read depth ts r d going e =
    let p = value depth in
    let j = converted_some of_json (p ts) d r e in
    let fewer : length r < length ts = skip_value-shorter depth ts r (ap left j.1) in
    ap (converted of_items) (items_more p (length ts) ts r j.0 (omega (arith, fewer)) going j.1)
    ∙ with_item j.0 d j.2 (items p (length ts - 1) r)
    ∙ ap (λ o. parse_map (item d) (converted of_items o))
    (items_same p (skip_value-shorter depth) (length ts - 1) (length r) r (omega (arith, fewer)) (omega arith))

no_item : (more : Parse json.Items) (o : Option (json.Json × List Token)) → converted of_json o ≡ None
    → converted of_items (option_and_then (λ q. parse_map (json.item q.0) (more q.1)) o) ≡ None
no_item more None e = refl
no_item more (Some q) e = without_item q.0 (refused q.1 (of_json q.0) e) (more q.1)

item_refused_within : (p : Parse json.Json) (n : ℕ) (ts : List Token) → after_end_array ts ≡ None
    → converted of_json (p ts) ≡ None → converted of_items (items p n ts) ≡ None
unfolding items
item_refused_within p zero ts going e = refl
item_refused_within p (suc n) ts going e =
    ap (λ o. converted of_items (items_step p (items p n) ts o)) going ∙ no_item (items p n) (p ts) e

pub item_refused : (depth : ℕ) (ts : List Token) → after_end_array ts ≡ None → value_left depth ts ≡ None
    → items_left depth ts ≡ None
item_refused depth ts going e = item_refused_within (value depth) (length ts) ts going e

pub items_over : (depth : ℕ) (ts r : List Token) → after_end_array ts ≡ Some r
    → items_left depth ts ≡ Some (no_items, r)
items_over depth ts r e = ap (converted of_items) (items_end (value depth) (length ts) ts r (omega arith) e)

-- ---- the members of an object

pub member_read : (depth : ℕ) (old : Members) (k : List ℕ) (ts s r : List Token) (d : Data)
    → read_key ts ≡ Some (Some k, s) → value_left depth s ≡ Some (d, r)
    → members_left depth old ts ≡ members_left depth (put k d old) r
member_read depth old k ts s r d key e =
    let p = value depth in
    let j = converted_some of_json (p s) d r e in
    let fewer : length r < length s = skip_value-shorter depth s r (ap left j.1) in
    let named : length s < length ts = read_key-shorter ts (Some k) s key in
    ap (converted (λ ms. of_members ms old))
    (members_more p (length ts) k ts s r j.0 (omega (arith, named)) key j.1)
    ∙ with_member k j.0 d old j.2 (members p (length ts - 1) r)
    ∙ ap (converted (λ ms. of_members ms (put k d old)))
    (members_same p (skip_value-shorter depth) (length ts - 1) (length r) r (omega (arith, fewer, named)) (omega arith))

no_member : (old : Members) (k : List ℕ) (more : Parse json.Members) (o : Option (json.Json × List Token))
    → converted of_json o ≡ None
    → converted (λ ms. of_members ms old) (option_and_then (λ q. parse_map (json.member k q.0) (more q.1)) o) ≡ None
no_member old k more None e = refl
no_member old k more (Some q) e = without_member k q.0 old (refused q.1 (of_json q.0) e) (more q.1)

member_refused_within : (p : Parse json.Json) (old : Members) (n : ℕ) (k : List ℕ) (ts s : List Token)
    → read_key ts ≡ Some (Some k, s) → converted of_json (p s) ≡ None
    → converted (λ ms. of_members ms old) (members p n ts) ≡ None
unfolding members
member_refused_within p old zero k ts s key e = refl
member_refused_within p old (suc n) k ts s key e = rw key (no_member old k (members p n) (p s) e)

pub member_refused : (depth : ℕ) (old : Members) (k : List ℕ) (ts s : List Token) → read_key ts ≡ Some (Some k, s)
    → value_left depth s ≡ None → members_left depth old ts ≡ None
member_refused depth old k ts s key e = member_refused_within (value depth) old (length ts) k ts s key e

pub key_refused : (depth : ℕ) (old : Members) (ts : List Token) → read_key ts ≡ None → members_left depth old ts ≡ None
key_refused depth old ts e =
    ap (converted (λ ms. of_members ms old)) (members_no_key (value depth) (length ts) ts e)

pub members_over : (depth : ℕ) (old : Members) (ts r : List Token) → read_key ts ≡ Some (None, r)
    → members_left depth old ts ≡ Some (old, r)
members_over depth old ts r e =
    ap (converted (λ ms. of_members ms old)) (members_end (value depth) (length ts) ts r (omega arith) e)

-- ---- a value by its first token

pub value_array : (depth : ℕ) (ts : List Token) → 0 < depth
    → value_left depth (Token.begin_array ∷ ts) ≡ parse_map array (items_left (depth - 1) ts)
value_array depth ts some =
    ap (converted of_json) (value-begin_array depth ts some)
    ∙ converted-array (items (value (depth - 1)) (length ts) ts)

pub value_object : (depth : ℕ) (ts : List Token) → 0 < depth
    → value_left depth (Token.begin_object ∷ ts) ≡ parse_map object (members_left (depth - 1) no_members ts)
value_object depth ts some =
    ap (converted of_json) (value-begin_object depth ts some)
    ∙ converted-object (members (value (depth - 1)) (length ts) ts)

-- a value has at least one token
pub value_shorter : (depth : ℕ) (ts r : List Token) (d : Data) → value_left depth ts ≡ Some (d, r)
    → length r < length ts
value_shorter depth ts r d e =
    let j = converted_some of_json (value depth ts) d r e in skip_value-shorter depth ts r (ap left j.1)

-- ---- a value that was read

pub was_in_range : (o : Option (json.Json × List Token)) (j : json.Json) (r : List Token) → o ≡ Some (j, r)
    → in_range j ≡ true → converted of_json o ≡ Some (data_of j, r)
was_in_range o j r e h = ap (converted of_json) e ∙ ap (option_map (λ d. (d, r))) (of_json_in_range j h)

pub was_out_of_range : (o : Option (json.Json × List Token)) (j : json.Json) (r : List Token) → o ≡ Some (j, r)
    → in_range j ≡ false → converted of_json o ≡ None
was_out_of_range o j r e h = ap (converted of_json) e ∙ ap (option_map (λ d. (d, r))) (of_json_out_of_range j h)

-- ---- what was passed over

pub none_before : {A : Type 0} (r : Option (A × List Token)) → r ≡ parse_map (λ a. a) r
none_before None = refl
none_before (Some p) = refl

pub one_before : {A : Type 0} (f g : A → A) (r : Option (A × List Token))
    → parse_map f (parse_map g r) ≡ parse_map (λ a. f (g a)) r
one_before f g None = refl
one_before f g (Some p) = refl

pub no_value : (depth : ℕ) → value_left depth [] ≡ None
no_value depth = ap (converted of_json) (value_is depth [])

pub not_an_array : (t : Token) (d : Data) → (t ≡ Token.begin_array → ⊥) → IsOf t d → as_array d ≡ None
not_an_array Token.begin_array d h is = absurd (h refl)
not_an_array Token.begin_object d h is = is
not_an_array Token.end_object d h is = is.0
not_an_array Token.end_array d h is = is.0
not_an_array (Token.key s) d h is = is.0
not_an_array (Token.string s) d h is = is.0
not_an_array (Token.number s) d h is = is.0
not_an_array (Token.boolean b) d h is = is.0
not_an_array Token.null d h is = is.0
not_an_array Token.bad d h is = is.0

pub not_an_object : (t : Token) (d : Data) → (t ≡ Token.begin_object → ⊥) → IsOf t d → as_object d ≡ None
not_an_object Token.begin_array d h is = is
not_an_object Token.begin_object d h is = absurd (h refl)
not_an_object Token.end_object d h is = is.1
not_an_object Token.end_array d h is = is.1
not_an_object (Token.key s) d h is = is.1
not_an_object (Token.string s) d h is = is.1
not_an_object (Token.number s) d h is = is.1
not_an_object (Token.boolean b) d h is = is.1
not_an_object Token.null d h is = is.1
not_an_object Token.bad d h is = is.1

-- ---- a value of one token

whole_number : (depth : ℕ) (s : List ℕ) (ts : List Token) (n : Option Num) → number_of s ≡ n → is_some n ≡ true
    → (d : Data) × (value_left depth (Token.number s ∷ ts) ≡ Some (d, ts)) × IsOf (Token.number s) d
whole_number depth s ts None e h = absurd (false≢true h)
whole_number depth s ts (Some n) e h = (
  number n,
  ap (converted of_json) (value_is depth (Token.number s ∷ ts)) ∙ ap (λ o. option_map (λ d. (d, ts)) (option_map number o)) e,
  (refl, refl),
)

pub whole_value : (depth : ℕ) (t : Token) (ts : List Token) → is_whole t ≡ true
    → (d : Data) × (value_left depth (t ∷ ts) ≡ Some (d, ts)) × IsOf t d
whole_value depth (Token.string s) ts h =
    (string s, ap (converted of_json) (value_is depth (Token.string s ∷ ts)), (refl, refl))
whole_value depth (Token.number s) ts h = whole_number depth s ts (number_of s) refl h
whole_value depth (Token.boolean b) ts h =
    (boolean b, ap (converted of_json) (value_is depth (Token.boolean b ∷ ts)), (refl, refl))
whole_value depth Token.null ts h = (null, ap (converted of_json) (value_is depth (Token.null ∷ ts)), (refl, refl))
whole_value depth Token.begin_object ts h = absurd (false≢true h)
whole_value depth Token.end_object ts h = absurd (false≢true h)
whole_value depth Token.begin_array ts h = absurd (false≢true h)
whole_value depth Token.end_array ts h = absurd (false≢true h)
whole_value depth (Token.key s) ts h = absurd (false≢true h)
whole_value depth Token.bad ts h = absurd (false≢true h)

no_number : (n : Option Num) → is_some n ≡ false → n ≡ None
no_number None h = refl
no_number (Some n) h = absurd (true≢false h)

pub wrong_token : (depth : ℕ) (t : Read) (ts : List Token) → (t ≡ read.BeginArray → ⊥) → (t ≡ read.BeginObject → ⊥)
    → is_whole (token_of t) ≡ false → value_left depth (token_of t ∷ ts) ≡ None
wrong_token depth read.BeginObject ts a o h = absurd (o refl)
wrong_token depth read.BeginArray ts a o h = absurd (a refl)
wrong_token depth read.EndObject ts a o h = ap (converted of_json) (value_is depth _)
wrong_token depth read.EndArray ts a o h = ap (converted of_json) (value_is depth _)
wrong_token depth (read.Key s) ts a o h = ap (converted of_json) (value_is depth _)
wrong_token depth (read.String s) ts a o h = absurd (true≢false h)
wrong_token depth (read.Number s) ts a o h =
    ap (converted of_json) (value_is depth (Token.number s.now ∷ ts))
    ∙ ap (λ n. option_map (λ d. (d, ts)) (option_map number n)) (no_number (number_of s.now) h)
wrong_token depth (read.Bool b) ts a o h = absurd (true≢false h)
wrong_token depth read.Null ts a o h = absurd (true≢false h)
wrong_token depth read.Bad ts a o h = ap (converted of_json) (value_is depth _)

-- ---- the whole text

abbrev pub whole : Option (json.Json × List Token) → Option Data
whole o = option_and_then of_json (option_and_then (λ p. json.if_last p.0 p.1) o)

pub whole_read : (o : Option (json.Json × List Token)) (d : Data) → converted of_json o ≡ Some (d, []) → whole o ≡ Some d
whole_read o d e = let j = converted_some of_json o d [] e in ap whole j.1 ∙ j.2

pub whole_and_more : (o : Option (json.Json × List Token)) (d : Data) (t : Token) (r : List Token)
    → converted of_json o ≡ Some (d, t ∷ r) → whole o ≡ None
whole_and_more o d t r e = ap whole (converted_some of_json o d (t ∷ r) e).1

pub whole_refused : (o : Option (json.Json × List Token)) → converted of_json o ≡ None → whole o ≡ None
whole_refused None e = refl
whole_refused (Some (j, [])) e = refused [] (of_json j) e
whole_refused (Some (j, t ∷ r)) e = refl
