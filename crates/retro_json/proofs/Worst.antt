-- Lists whose items are read in a loop, with the worst refusal as the result.
use Rattle.std.proofs.Common.{◌≡◌, ℕ, ◌+◌, ◌<◌, ◌≤◌, length, map, drop, get_or, List, [], ◌∷◌, ◌++◌, Result, Ok, Err}
use Rattle.std.proofs.Common.{refl, sym, ap, ◌∙◌, append_assoc}
use Rattle.std.proofs.lemmas.List.{append-nil, map_push}
use Rattle.std.proofs.Math.ListN.{drop_of_length-le}
use Rattle.retro_json.specs.declared.fault.Refusal.{Refusal}
use Rattle.retro_json.specs.declared.fault.Refusal.TheVariants.{WrongShape, BadHex}
use Rattle.retro_json.specs.ReadsAs.{seen}
use Rattle.retro_json.specs.Steps.{◌>>=◌}
use Rattle.retro_json.specs.Worst.{both, every, with_item, worse}
use Rattle.retro_json.proofs.Each.{at_item}

worse_assoc : (a b c : Refusal) → worse (worse a b) c ≡ worse a (worse b c)
worse_assoc (WrongShape part) b c = refl
worse_assoc BadHex (WrongShape part) c = refl
worse_assoc BadHex BadHex (WrongShape part) = refl
worse_assoc BadHex BadHex c = refl
worse_assoc BadHex b c = refl
worse_assoc a b c = refl

-- ---- one more item, where the items are seen by `f`

both_seen : {X Y A : Type 0} (f : X → Y) (one : Result X Refusal) (two : Result A Refusal)
    → both (seen f one) two ≡ seen (λ p. (f p.0, p.1)) (both one two)
both_seen f (Ok x) (Ok y) = refl
both_seen f (Ok x) (Err e) = refl
both_seen f (Err e) (Ok y) = refl
both_seen f (Err e) (Err g) = refl

-- the last of three things seen by `f`
last_seen : {X Y A B : Type 0} (f : X → Y) (one : Result A Refusal) (two : Result B Refusal) (last : Result X Refusal)
    → both one (both two (seen f last)) ≡ seen (λ p. (p.0, (p.1.0, f p.1.1))) (both one (both two last))
last_seen f (Ok x) (Ok y) (Ok z) = refl
last_seen f (Ok x) (Ok y) (Err e) = refl
last_seen f (Ok x) (Err e) (Ok z) = refl
last_seen f (Ok x) (Err e) (Err g) = refl
last_seen f (Err e) (Ok y) (Ok z) = refl
last_seen f (Err e) (Ok y) (Err g) = refl
last_seen f (Err e) (Err g) (Ok z) = refl
last_seen f (Err e) (Err g) (Err h) = refl

pub last_refused : {X Y A B : Type 0} (f : X → Y) (one : Result A Refusal) (two : Result B Refusal)
    (last : Result X Refusal) (rest : Result (B × X) Refusal) (e : Refusal)
    → Err e ≡ both one rest → rest ≡ both two last → both one (both two (seen f last)) ≡ Err e
last_refused f one two last rest e is pair =
    last_seen f one two last ∙ ap (seen (λ p. (p.0, (p.1.0, f p.1.1)))) (sym (is ∙ ap (both one) pair))

pub item_added : {X A : Type 0} (f : X → List A) (items : Result X Refusal) (item : Result A Refusal) (v new : X)
    (x : A) → Ok (v, x) ≡ both items item → f new ≡ f v ++ x ∷ [] → Ok (f new) ≡ with_item (seen f items) item
item_added {A = A} f items item v new x is added =
    let pair : both (seen f items) item ≡ Ok (f v, x) =
    both_seen f items item ∙ ap (seen (λ p. (f p.0, p.1))) (sym is) in
    rw pair (ap (λ (zs : List A). Ok zs) added)

pub item_refused : {X A : Type 0} (f : X → List A) (items : Result X Refusal) (item : Result A Refusal) (e : Refusal)
    → Err e ≡ both items item → Err e ≡ with_item (seen f items) item
item_refused f items item e is =
    let pair : both (seen f items) item ≡ Err e =
    both_seen f items item ∙ ap (seen (λ p. (f p.0, p.1))) (sym is) in
    rw pair refl

-- ---- lists one after the other

-- two lists one after the other, or the worse refusal
abbrev pub join : {B : Type 0} → Result (List B) Refusal → Result (List B) Refusal → Result (List B) Refusal
join front rest = do
  (xs, ys) ← both front rest
  Ok (xs ++ ys)

-- an item before others, or the worse refusal
abbrev before : {B : Type 0} → Result B Refusal → Result (List B) Refusal → Result (List B) Refusal
before item rest = do
  (y, ys) ← both item rest
  Ok (y ∷ ys)

regroup : {B : Type 0} (front : Result (List B) Refusal) (item : Result B Refusal) (rest : Result (List B) Refusal)
    → join (with_item front item) rest ≡ join front (before item rest)
regroup {B = B} (Ok xs) (Ok y) (Ok ys) = ap (λ (zs : List B). Ok zs) (append_assoc xs (y ∷ []) ys)
regroup (Ok xs) (Ok y) (Err e) = refl
regroup (Ok xs) (Err e) (Ok ys) = refl
regroup (Ok xs) (Err e) (Err g) = refl
regroup (Err e) (Ok y) (Ok ys) = refl
regroup (Err e) (Ok y) (Err g) = refl
regroup (Err e) (Err g) (Ok ys) = refl
regroup (Err e) (Err g) (Err h) = ap Err (worse_assoc e g h)

pub join_start : {B : Type 0} (rest : Result (List B) Refusal) → join (Ok []) rest ≡ rest
join_start (Ok ys) = refl
join_start (Err e) = refl

join_end : {B : Type 0} (front : Result (List B) Refusal) → join front (Ok []) ≡ front
join_end {B = B} (Ok xs) = ap (λ (zs : List B). Ok zs) (append-nil xs)
join_end (Err e) = refl

-- all items and one more

before_nil : {B : Type 0} (item : Result B Refusal) → before item (Ok []) ≡ with_item (Ok []) item
before_nil (Ok y) = refl
before_nil (Err e) = refl

before_with : {B : Type 0} (item : Result B Refusal) (items : Result (List B) Refusal) (last : Result B Refusal)
    → before item (with_item items last) ≡ with_item (before item items) last
before_with (Ok y) (Ok ys) (Ok z) = refl
before_with (Ok y) (Ok ys) (Err e) = refl
before_with (Ok y) (Err e) (Ok z) = refl
before_with (Ok y) (Err e) (Err f) = refl
before_with (Err e) (Ok ys) (Ok z) = refl
before_with (Err e) (Ok ys) (Err f) = refl
before_with (Err e) (Err f) (Ok z) = refl
before_with (Err e) (Err f) (Err g) = ap Err (sym (worse_assoc e f g))

pub every_push : {A B : Type 0} (f : A → Result B Refusal) (xs : List A) (x : A)
    → every f (xs ++ x ∷ []) ≡ with_item (every f xs) (f x)
unfolding every
every_push f [] x = before_nil (f x)
every_push f (y ∷ ys) x = ap (before (f y)) (every_push f ys x) ∙ before_with (f y) (every f ys) (f x)

-- ---- items that are seen by a function

seen_map : {V A B : Type 0} (items : V → List A) (f : A → B) (read : Result V Refusal)
    → seen (λ v. map f (items v)) read ≡ seen (map f) (seen items read)
seen_map items f (Ok v) = refl
seen_map items f (Err e) = refl

map_with : {A B : Type 0} (f : A → B) (items : Result (List A) Refusal) (item : Result A Refusal)
    → seen (map f) (with_item items item) ≡ with_item (seen (map f) items) (seen f item)
map_with {B = B} f (Ok xs) (Ok x) = ap (λ (zs : List B). Ok zs) (map_push f xs x)
map_with f (Ok xs) (Err e) = refl
map_with f (Err e) (Ok x) = refl
map_with f (Err e) (Err g) = refl

pub seen_item : {V A B : Type 0} (items : V → List A) (f : A → B) (was new : Result V Refusal) (item : Result A Refusal)
    → seen items new ≡ with_item (seen items was) item
    → seen (λ v. map f (items v)) new ≡ with_item (seen (λ v. map f (items v)) was) (seen f item)
seen_item items f was new item is =
    seen_map items f new ∙ ap (seen (map f)) is ∙ map_with f (seen items was) item
    ∙ ap (λ r. with_item r (seen f item)) (sym (seen_map items f was))

-- ---- a loop over a slice, whose items are seen by `va`: `out` is what was read before an index

abbrev pub IsValidatedTo : {A D B : Type 0} → (D → Result B Refusal) → (A → D) → Result (List B) Refusal → List A → ℕ
    → Type 0
IsValidatedTo f va out items i = join out (every f (map va (drop i items))) ≡ every f (map va items)

pub validating_starts : {A D B : Type 0} (f : D → Result B Refusal) (va : A → D) (items : List A)
    → IsValidatedTo f va (Ok []) items 0
validating_starts f va items = join_start (every f (map va items))

pub validating_goes_on : {A D B : Type 0} (f : D → Result B Refusal) (va : A → D) (out new : Result (List B) Refusal)
    (items : List A) (i : ℕ) (d x : A) (y : Result B Refusal)
    → i < length items → x ≡ get_or items i d → y ≡ f (va x) → new ≡ with_item out y
    → IsValidatedTo f va out items i → IsValidatedTo f va new items (i + 1)
unfolding every
validating_goes_on f va out new items i d x y lt is read pushed so_far =
    let rest = every f (map va (drop (i + 1) items)) in
    let here : every f (map va (drop i items)) ≡ before (f (va x)) rest = ap (every f) (at_item va items i d x lt is) in
    let step : join new rest ≡ join out (before (f (va x)) rest) =
    ap (λ n. join n rest) (pushed ∙ ap (with_item out) read) ∙ regroup out (f (va x)) rest in
    step ∙ sym (ap (join out) here) ∙ so_far

pub validating_done : {A D B : Type 0} (f : D → Result B Refusal) (va : A → D) (out : Result (List B) Refusal)
    (items : List A) (i : ℕ)
    → length items ≤ i → IsValidatedTo f va out items i → out ≡ every f (map va items)
unfolding every
validating_done f va out items i le so_far =
    let none : every f (map va (drop i items)) ≡ Ok [] = ap (λ xs. every f (map va xs)) (drop_of_length-le items le) in
    sym (join_end out) ∙ ap (join out) (sym none) ∙ so_far

-- ---- a loop that takes its items from a list: `out` is what was read before the rest

abbrev pub IsValidatedBefore : {A D B : Type 0} → (D → Result B Refusal) → (A → D) → Result (List B) Refusal → List A
    → List A → Type 0
IsValidatedBefore f va out rest items = join out (every f (map va rest)) ≡ every f (map va items)

pub taking_starts : {A D B : Type 0} (f : D → Result B Refusal) (va : A → D) (items : List A)
    → IsValidatedBefore f va (Ok []) items items
taking_starts f va items = join_start (every f (map va items))

pub taking_goes_on : {A D B : Type 0} (f : D → Result B Refusal) (va : A → D) (out new : Result (List B) Refusal)
    (x : A) (rest items : List A) (y : Result B Refusal)
    → y ≡ f (va x) → new ≡ with_item out y
    → IsValidatedBefore f va out (x ∷ rest) items → IsValidatedBefore f va new rest items
unfolding every
taking_goes_on f va out new x rest items y read pushed so_far =
    let others = every f (map va rest) in
    let step : join new others ≡ join out (before (f (va x)) others) =
    ap (λ n. join n others) (pushed ∙ ap (with_item out) read) ∙ regroup out (f (va x)) others in
    step ∙ so_far

pub taking_done : {A D B : Type 0} (f : D → Result B Refusal) (va : A → D) (out : Result (List B) Refusal)
    (items : List A) → IsValidatedBefore f va out [] items → out ≡ every f (map va items)
unfolding every
taking_done f va out items so_far = sym (join_end out) ∙ so_far
