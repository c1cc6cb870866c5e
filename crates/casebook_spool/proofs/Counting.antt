-- How many items and bytes are counted.
use Rattle.std.proofs.Common.{◌≡◌, ℕ, suc, zero, ◌+◌, ◌-◌, ◌<◌, ◌≤◌, ◌==◌, Bool, true, false, arith, length, take, List, [], ◌∷◌, Ok, Err, refl}
use Rattle.std.specs.Prelude.{◌||◌, Result, if◌then◌else◌, nat_lt, cond}
use Rattle.std.specs.List.{onto_first}
use Rattle.casebook_rows.specs.Rows.{fields_of, newline, rows_of}
use Rattle.casebook_spool.specs.Lines.{◌>>=◌, is_record, item_or, items_of, rows_length, up_to_record, whole_rows}
use Rattle.casebook_spool.specs.Reading.{item_of}
use Rattle.casebook_spool.specs.declared.item.Item.{Item}

no_more : (b : Bool) (n m : ℕ) → n ≤ m → (if b then suc n else 0) ≤ m + 1
no_more true n m h = omega (arith, h)
no_more false n m h = omega arith

pub up_to_record_le : (items : List Item) → up_to_record items ≤ length items
up_to_record_le [] = omega arith
up_to_record_le (item ∷ items) =
    let below = no_more (is_record item || nat_lt 0 (up_to_record items)) _ _ (up_to_record_le items) in
    omega (arith, below)

as_many : (first : Result Item ℕ) (rest : Result (List Item) ℕ) (items : List Item) (n : ℕ)
    → ((more : List Item) → rest ≡ Ok more → length more ≡ n)
    → (first >>= λ item. rest >>= λ more. Ok (item ∷ more)) ≡ Ok items → length items ≡ n + 1
as_many (Err n) rest items m h e = absurd (cc)
as_many (Ok item) (Err n) items m h e = absurd (cc)
as_many (Ok item) (Ok more) items m h e =
    let same : length items ≡ length (item ∷ more) = cc in
    let all = h more refl in
    omega (arith, same, all)

pub length_items : (n : ℕ) (rows : List (List ℕ)) (items : List Item)
    → items_of n rows ≡ Ok items → length items ≡ length rows
unfolding items_of
length_items n [] items e = let same : length items ≡ length {A = Item} [] = cc in omega (arith, same)
length_items n (row ∷ rows) items e =
    let all = as_many (item_or n (item_of (fields_of row))) (items_of (n + 1) rows) items (length rows)
    (length_items (n + 1) rows) e in
    omega (arith, all)

pub rows_length-take : (k : ℕ) (rows : List (List ℕ)) → rows_length (take k rows) ≤ rows_length rows
rows_length-take zero rows = omega arith
rows_length-take (suc k) [] = omega arith
rows_length-take (suc k) (row ∷ rows) = let rest = rows_length-take k rows in omega (arith, rest)

less_one : (k : ℕ) (rows : List (List ℕ)) → k < length rows → rows_length (take k rows) + 1 ≤ rows_length rows
less_one k [] lt = absurd (omega (arith, lt))
less_one zero (row ∷ rows) lt = omega arith
less_one (suc k) (row ∷ rows) lt = let rest = less_one k rows (omega (arith, lt)) in omega (arith, rest)

longer : (b : Bool) (c n : ℕ) (parts : List (List ℕ)) → rows_length parts ≡ n + 1
    → rows_length (cond b ([] ∷ parts) (onto_first c parts)) ≡ n + 2
longer true c n parts e = omega (arith, e)
longer false c n [] e = absurd (omega (arith, e))
longer false c n (part ∷ parts) e = omega (arith, e)

split_length : (text : List ℕ) → rows_length (rows_of text) ≡ length text + 1
split_length [] = omega arith
split_length (c ∷ cs) =
    let all = longer (c == newline) c (length cs) (rows_of cs) (split_length cs) in omega (arith, all)

some_rows : (rows : List (List ℕ)) (n : ℕ) → rows_length rows ≡ n + 1 → 0 < length rows
some_rows [] n e = absurd (omega (arith, e))
some_rows (row ∷ rows) n e = omega arith

pub within : (text : List ℕ) (k : ℕ) → rows_length (take k (whole_rows text)) ≤ length text
within text k =
    let all = split_length text in
    let some = some_rows (rows_of text) (length text) all in
    let front = less_one (length (rows_of text) - 1) (rows_of text) (omega (arith, some)) in
    let part = rows_length-take k (whole_rows text) in
    omega (arith, all, front, part)
