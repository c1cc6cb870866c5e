-- The files `lines` and `listing`.
use Rattle.std.specs.Prelude.{ℕ, suc, ◌+◌, ◌-◌, ◌||◌, Bool, true, false, nat_lt, List, [], ◌∷◌, length}
use Rattle.std.specs.Prelude.{Option, if◌then◌else◌}
use Rattle.std.specs.Prelude.{Result, Ok, Err, ok_or, take}
use Rattle.casebook_rows.specs.Rows.{fields_of, rows_of}
use Rattle.casebook_spool.specs.Reading.{item_of}
use Rattle.casebook_spool.specs.declared.item.Item.{Item}
use Rattle.casebook_spool.specs.declared.item.Item.TheVariants as items
use Rattle.casebook_spool.specs.Said.{LinesValue}

-- all items but the last
abbrev pub front : {A : Type 0} → List A → List A
front xs = take (length xs - 1) xs

-- the rows of a text that a newline ends: what follows the last newline was cut off
abbrev pub whole_rows : List ℕ → List (List ℕ)
whole_rows text = front (rows_of text)

infixl 10 ◌>>=◌
abbrev pub ◌>>=◌ : {A B : Type 0} → Result A ℕ → (A → Result B ℕ) → Result B ℕ
(Ok x) >>= f = f x
(Err n) >>= f = Err n

-- what a row says, or its number
abbrev pub item_or : ℕ → Option Item → Result Item ℕ
item_or n item = ok_or item n

-- What rows say, or the number of the first one that says nothing. `n` is the number of the first.
unfoldable pub items_of : ℕ → List (List ℕ) → Result (List Item) ℕ
items_of n [] = Ok []
items_of n (row ∷ rows) = item_or n (item_of (fields_of row)) >>= λ item.
    items_of (n + 1) rows >>= λ items. Ok (item ∷ items)

abbrev pub is_record : Item → Bool
is_record (items.Note note) = false
is_record (items.Record r) = true

-- how many items there are up to the last record
abbrev pub up_to_record : List Item → ℕ
up_to_record [] = 0
up_to_record (item ∷ items) =
    if is_record item || nat_lt 0 (up_to_record items) then suc (up_to_record items) else 0

-- the length of rows, with a newline after each
abbrev pub rows_length : List (List ℕ) → ℕ
rows_length [] = 0
rows_length (row ∷ rows) = length row + 1 + rows_length rows

-- items up to the last record, and the length of their rows
abbrev pub lines_in : List (List ℕ) → List Item → LinesValue
lines_in rows items = record {
  said = take (up_to_record items) items;
  whole = rows_length (take (up_to_record items) rows);
}

-- what the file says, if its rows say something
abbrev pub lines_with : List (List ℕ) → Result (List Item) ℕ → Result LinesValue ℕ
lines_with rows (Ok items) = Ok (lines_in rows items)
lines_with rows (Err n) = Err n

-- What the file `lines` says, or the number of the first row that is wrong. Notes after the last
-- record are those of an observation that was cut off.
unfoldable pub lines_of : List ℕ → Result LinesValue ℕ
lines_of text = lines_with (whole_rows text) (items_of 1 (whole_rows text))
