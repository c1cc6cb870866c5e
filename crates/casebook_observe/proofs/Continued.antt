-- What is whole of a text is read with an observation after it as what it said and then that.
use Rattle.std.proofs.Common.{◌≡◌, ◌∙◌, ℕ, suc, ◌+◌, ◌-◌, ◌<◌, ◌≤◌, ◌==◌, Bool, true, false, cond}
use Rattle.std.proofs.Common.{List, [], ◌∷◌, ◌++◌, Ok, Err, All, ap, append_assoc, append-nil}
use Rattle.std.proofs.Common.{arith, drop, length, length-append, map, refl, sym, take}
use Rattle.std.proofs.Common.{take-append-drop}
use Rattle.std.proofs.Math.Seq.{drop-append_seam}
use Rattle.std.specs.List.{drop-map, onto_first, slice_split}
use Rattle.std.proofs.lemmas.List.Splits.{length-slice_split}
use Rattle.casebook_record.specs.declared.record.Record.{Record}
use Rattle.std.specs.Prelude.{◌||◌, Option, Some, None, Result, if◌then◌else◌, nat_lt}
use Rattle.std.proofs.lemmas.Bool.{eqb-true, lt-ltb}
use Rattle.std.proofs.lemmas.Grind.{flat_map-append}
use Rattle.std.proofs.lemmas.List.{length-map, take-map, take_at}
use Rattle.std.proofs.lemmas.List.Elements.{All-append, All-cons, All-head, All-nil, All-tail}
use Rattle.std.proofs.lemmas.List.Elements.{All-take}
use Rattle.casebook_spool.specs.Lines.{◌>>=◌, front, is_record, item_or, items_of, lines_in}
use Rattle.casebook_spool.specs.Lines.{lines_of, lines_with, rows_length, up_to_record, whole_rows}
use Rattle.casebook_spool.specs.ReadBack as back
use Rattle.casebook_spool.specs.ReadBack.{IsObservation, Observation}
use Rattle.casebook_spool.specs.Said.{LinesValue}
use Rattle.casebook_spool.specs.Written.{record_row, row_line, row_words}
use Rattle.casebook_spool.specs.declared.item.Item.{Item}
use Rattle.casebook_spool.specs.declared.item.Item.TheVariants as items
use Rattle.casebook_spool.proofs.Counting.{within}
use Rattle.casebook_spool.proofs.LinesRead.{lines_read}
use Rattle.casebook_spool.proofs.LinesTrip.{Say, all_said, both_say, note_items, note_words}
use Rattle.casebook_spool.proofs.LinesTrip.{notes_are_lines, notes_say, record_is_line, record_says}
use Rattle.casebook_spool.proofs.LinesTrip.{row_item, some_item}
use Rattle.casebook_spool.proofs.Observations.{notes_ended}
use Rattle.casebook_spool.proofs.WholeRows.{IsLine, ended, length_ended, whole_all, whole_before}

abbrev newline : ℕ
newline = 10

abbrev rows_of : List ℕ → List (List ℕ)
rows_of text = slice_split (λ b. b == 10) text

-- ---- the whole rows of a text

-- rows without newlines, all of which but the last begin a text, each with a newline after it
abbrev IsOf : List ℕ → List (List ℕ) → Type 0
IsOf text rows = (rest : List ℕ) × (text ≡ ended (front rows) ++ rest) × All IsLine rows

front_after : (row next : List ℕ) (rows : List (List ℕ))
    → front (row ∷ next ∷ rows) ≡ row ∷ front (next ∷ rows)
front_after row next rows =
    let one : length (row ∷ next ∷ rows) - 1 ≡ suc (length (next ∷ rows) - 1) = omega arith in
    ap (λ k. take k (row ∷ next ∷ rows)) one

one_on : (b : Bool) (c : ℕ) (cs : List ℕ) (rows : List (List ℕ)) → (c == newline) ≡ b
    → 0 < length rows → IsOf cs rows → IsOf (c ∷ cs) (cond b ([] ∷ rows) (onto_first c rows))
one_on b c cs [] e some h = absurd (omega (arith, some))
one_on true c cs (row ∷ rows) e some h =
    let is : c ≡ newline = eqb-true c newline e in (
      h.0,
      ap (λ b. b ∷ cs) is ∙ ap (λ text. newline ∷ text) h.1
          ∙ ap (λ all. ended all ++ h.0) (sym (front_after [] row rows)),
      All-cons IsLine [] (row ∷ rows) (All-nil (λ b. (b == newline) ≡ false)) h.2,
    )
one_on false c cs (row ∷ []) e some h = (
  c ∷ cs,
  refl,
  All-cons IsLine (c ∷ row) []
      (All-cons (λ b. (b == newline) ≡ false) c row e (All-head IsLine row [] h.2))
      (All-nil IsLine),
)
one_on false c cs (row ∷ next ∷ rows) e some h = (
  h.0,
  ap (λ text. c ∷ text) (h.1 ∙ ap (λ all. ended all ++ h.0) (front_after row next rows))
      ∙ ap (λ all. ended all ++ h.0) (sym (front_after (c ∷ row) next rows)),
  All-cons IsLine (c ∷ row) (next ∷ rows)
      (All-cons (λ b. (b == newline) ≡ false) c row e (All-head IsLine row (next ∷ rows) h.2))
      (All-tail IsLine row (next ∷ rows) h.2),
)

some_of_rows : (text : List ℕ) → 0 < length (rows_of text)
some_of_rows text =
    let all = length-slice_split (λ b. b == newline) text in omega (arith, all)

rows_of_text : (text : List ℕ) → IsOf text (rows_of text)
rows_of_text [] = (
  [],
  refl,
  All-cons IsLine [] [] (All-nil (λ b. (b == newline) ≡ false)) (All-nil IsLine),
)
rows_of_text (c ∷ cs) =
    one_on (c == newline) c cs (rows_of cs) refl (some_of_rows cs) (rows_of_text cs)

pub whole_are_lines : (text : List ℕ) → All IsLine (whole_rows text)
whole_are_lines text =
    All-take IsLine (length (rows_of text) - 1) (rows_of text) (rows_of_text text).2

-- a text is some of its whole rows, and more
parted_at : (text : List ℕ) (u : ℕ)
    → text ≡ ended (take u (whole_rows text))
    ++ (ended (drop u (whole_rows text)) ++ (rows_of_text text).0)
parted_at text u =
    let rest = (rows_of_text text).0 in
    (rows_of_text text).1
    ∙ ap (λ rows. ended rows ++ rest) (sym (take-append-drop u (whole_rows text)))
    ∙ ap (λ all. all ++ rest)
    (flat_map-append (λ row. row ++ newline ∷ []) (take u (whole_rows text))
    (drop u (whole_rows text)))
    ∙ append_assoc (ended (take u (whole_rows text))) (ended (drop u (whole_rows text))) rest

pub rows_at : (text : List ℕ) (u : ℕ)
    → take (rows_length (take u (whole_rows text))) text ≡ ended (take u (whole_rows text))
rows_at text u =
    let rows = take u (whole_rows text) in
    ap (take (rows_length rows)) (parted_at text u)
    ∙ take_at (ended rows) (ended (drop u (whole_rows text)) ++ (rows_of_text text).0)
    (rows_length rows) (sym (length_ended rows))

-- ---- what rows say

one_says : (n : ℕ) (row : List ℕ) (rows : List (List ℕ)) (x : Option Item)
    (rest : Result (List Item) ℕ) (said : List Item) → row_item row ≡ x
    → ((more : List Item) → rest ≡ Ok more → Say rows more)
    → (item_or n x >>= λ item. rest >>= λ more. Ok (item ∷ more)) ≡ Ok said
    → Say (row ∷ rows) said
one_says n row rows None rest said is f e = absurd (cc)
one_says n row rows (Some item) (Err k) said is f e = absurd (cc)
one_says n row rows (Some item) (Ok more) said is f e =
    let same : said ≡ item ∷ more = cc in
    rw (same, is) (ap (λ all. Some item ∷ all) (f more refl))

pub rows_say : (n : ℕ) (rows : List (List ℕ)) (said : List Item) → items_of n rows ≡ Ok said
    → Say rows said
unfolding items_of
rows_say n [] [] e = refl
rows_say n [] (item ∷ said) e = absurd (cc)
rows_say n (row ∷ rows) said e =
    one_says n row rows (row_item row) (items_of (n + 1) rows) said refl
    (rows_say (n + 1) rows) e

pub first_say : (u : ℕ) (rows : List (List ℕ)) (said : List Item) → Say rows said
    → Say (take u rows) (take u said)
first_say u rows said h =
    sym (take-map row_item u rows) ∙ ap (take u) h ∙ take-map some_item u said

as_many : (rows : List (List ℕ)) (said : List Item) → Say rows said → length rows ≡ length said
as_many rows said h =
    let one = length-map rows row_item in
    let other = length-map said some_item in
    let same = ap length h in
    omega (arith, one, other, same)

-- ---- items that end in a record

one_more : (b : Bool) (m k : ℕ) → m ≡ k → 0 < k → (if b || nat_lt 0 m then suc m else 0) ≡ suc k
one_more true m k e h = ap suc e
one_more false m k e h = rw (lt-ltb 0 m (omega (arith, e, h))) (ap suc e)

through_record : (said : List Item) (r : Record)
    → up_to_record (said ++ items.Record r ∷ []) ≡ length said + 1
through_record [] r = omega arith
through_record (item ∷ said) r =
    one_more (is_record item) (up_to_record (said ++ items.Record r ∷ [])) (length said + 1)
    (through_record said r) (omega arith)
    ∙ omega arith

all_counted : (said : List Item) (o : Observation)
    → up_to_record (said ++ back.items_of o) ≡ length (said ++ back.items_of o)
all_counted said o =
    let notes = note_items o.noted in
    let group = append_assoc said notes (items.Record o.said ∷ []) in
    ap up_to_record (sym group) ∙ through_record (said ++ notes) o.said
    ∙ sym (length-append (said ++ notes) (items.Record o.said ∷ [])) ∙ ap length group

all_taken : (rows : List (List ℕ)) (said : List Item) → length rows ≡ length said
    → up_to_record said ≡ length said
    → lines_in rows said ≡ record { said = said; whole = rows_length rows }
all_taken rows said e h =
    rw (h, take-all said (length said) refl, take-all rows (length said) e) refl
  where
    take-all : {A : Type 0} (xs : List A) (n : ℕ) → length xs ≡ n → take n xs ≡ xs
    take-all xs n k = ap (take n) (sym (append-nil xs)) ∙ take_at xs [] n k

-- ---- an observation

abbrev rows_of_one : Observation → List (List ℕ)
rows_of_one o = map note_words o.noted ++ row_words (record_row o.fields) ∷ []

one_ended : (o : Observation) → back.text_of o ≡ ended (rows_of_one o)
one_ended o =
    ap (λ text. text ++ row_line (record_row o.fields)) (notes_ended o.noted)
    ∙ ap (λ text. ended (map note_words o.noted) ++ text)
    (sym (append-nil (row_line (record_row o.fields))))
    ∙ sym (flat_map-append (λ row. row ++ newline ∷ []) (map note_words o.noted)
    (row_words (record_row o.fields) ∷ []))

lines_of_one : (o : Observation) → IsObservation o → All IsLine (rows_of_one o)
lines_of_one o h =
    All-append IsLine (map note_words o.noted) (row_words (record_row o.fields) ∷ [])
    (notes_are_lines o.noted h.0)
    (All-cons IsLine (row_words (record_row o.fields)) [] (record_is_line o.fields)
    (All-nil IsLine))

observation_says : (o : Observation) → IsObservation o → Say (rows_of_one o) (back.items_of o)
observation_says o h =
    both_say (map note_words o.noted) (row_words (record_row o.fields) ∷ [])
    (note_items o.noted) (items.Record o.said ∷ [])
    (notes_say o.noted h.0) (record_says o.fields o.said h.1 h.2)

-- ---- an observation after what is whole

abbrev pub lines_value : List Item → ℕ → LinesValue
lines_value said whole = record { said = said; whole = whole }

-- rows that say something, and an observation after them
after_rows : (rows : List (List ℕ)) (said : List Item) (o : Observation) → All IsLine rows
    → Say rows said → IsObservation o
    → lines_of (ended rows ++ back.text_of o)
    ≡ Ok (lines_value (said ++ back.items_of o) (rows_length rows + length (back.text_of o)))
after_rows rows said o lines h k =
    let all = rows ++ rows_of_one o in
    let text : ended rows ++ back.text_of o ≡ ended all =
    ap (λ more. ended rows ++ more) (one_ended o)
    ∙ sym (flat_map-append (λ row. row ++ newline ∷ []) rows (rows_of_one o)) in
    let whole : whole_rows (ended rows ++ back.text_of o) ≡ all =
    ap whole_rows text
    ∙ whole_all all (All-append IsLine rows (rows_of_one o) lines (lines_of_one o k)) in
    let both = both_say rows (rows_of_one o) said (back.items_of o) h (observation_says o k) in
    let read = all_said 1 all (said ++ back.items_of o) both in
    let long : rows_length all ≡ rows_length rows + length (back.text_of o) =
    length_ended all ∙ ap length (sym text) ∙ length-append (ended rows) (back.text_of o)
    ∙ ap (λ n. n + length (back.text_of o)) (sym (length_ended rows)) in
    lines_read (ended rows ++ back.text_of o) (said ++ back.items_of o) (rw whole read)
    ∙ ap (λ rs. Ok (lines_in rs (said ++ back.items_of o))) whole
    ∙ ap (λ (v : LinesValue). Ok v)
    (all_taken all (said ++ back.items_of o) (as_many all (said ++ back.items_of o) both)
    (all_counted said o))
    ∙ ap (λ n. Ok (lines_value (said ++ back.items_of o) n)) long

-- the items of which a text's lines are a part
abbrev HasItems : List ℕ → Result (List Item) ℕ → LinesValue → Type 0
HasItems text read lines =
    (said : List Item) × (read ≡ Ok said) × (lines ≡ lines_in (whole_rows text) said)

has_items : (text : List ℕ) (read : Result (List Item) ℕ) (lines : LinesValue)
    → lines_with (whole_rows text) read ≡ Ok lines → HasItems text read lines
has_items text (Ok said) lines e = (said, refl, cc)
has_items text (Err n) lines e = absurd (cc)

items_read : (text : List ℕ) (lines : LinesValue) → lines_of text ≡ Ok lines
    → HasItems text (items_of 1 (whole_rows text)) lines
unfolding lines_of
items_read text lines e = has_items text (items_of 1 (whole_rows text)) lines e

after_items_read : (text : List ℕ) (said : List Item) (o : Observation)
    → items_of 1 (whole_rows text) ≡ Ok said → IsObservation o → (lines : LinesValue)
    → lines ≡ lines_in (whole_rows text) said
    → lines_of (take lines.whole text ++ back.text_of o)
    ≡ Ok (lines_value (lines.said ++ back.items_of o) (lines.whole + length (back.text_of o)))
after_items_read text said o e k lines is =
    let u = up_to_record said in
    let rows = take u (whole_rows text) in
    rw is (
    ap (λ whole. lines_of (whole ++ back.text_of o)) (rows_at text u)
    ∙ after_rows rows (take u said) o (All-take IsLine u (whole_rows text) (whole_are_lines text))
    (first_say u (whole_rows text) said (rows_say 1 (whole_rows text) said e)) k
    )

pub lines_on : (text : List ℕ) (lines : LinesValue) (o : Observation) → lines_of text ≡ Ok lines
    → IsObservation o
    → lines_of (take lines.whole text ++ back.text_of o)
    ≡ Ok (lines_value (lines.said ++ back.items_of o) (lines.whole + length (back.text_of o)))
lines_on text lines o e k =
    let read = items_read text lines e in
    after_items_read text read.0 o read.1 k lines read.2

-- what is whole isn't longer than the text
pub whole_within : (text : List ℕ) (lines : LinesValue) → lines_of text ≡ Ok lines
    → lines.whole ≤ length text
whole_within text lines e =
    let read = items_read text lines e in
    rw (read.2) (within text (up_to_record read.0))

-- ---- after what is whole

drop-seam : {A : Type 0} (xs ys zs : List A) → xs ++ ys ≡ xs ++ zs → ys ≡ zs
drop-seam xs ys zs e =
    sym (drop-append_seam xs ys) ∙ ap (drop (length xs)) e ∙ drop-append_seam xs zs

none_more : (said : List Item) → up_to_record (drop (up_to_record said) said) ≡ 0
none_more [] = refl
none_more (item ∷ said) =
    one (is_record item || nat_lt 0 (up_to_record said)) refl (none_more said)
  where
    one : (b : Bool) → (is_record item || nat_lt 0 (up_to_record said)) ≡ b
        → up_to_record (drop (up_to_record said) said) ≡ 0
        → up_to_record
        (drop (if b then suc (up_to_record said) else 0) (item ∷ said)) ≡ 0
    one true e none = none
    one false e none = ap (λ b. if b then suc (up_to_record said) else 0) e

-- what is left of a text after some of its rows
rest_at : (text : List ℕ) (u : ℕ) → List ℕ
rest_at text u = drop (rows_length (take u (whole_rows text))) text

rest_rows : (text : List ℕ) (u : ℕ) → whole_rows (rest_at text u) ≡ drop u (whole_rows text)
unfolding rest_at
rest_rows text u =
    let rows = take u (whole_rows text) in
    let rest = drop (rows_length rows) text in
    let all : ended rows ++ rest ≡ text =
    ap (λ part. part ++ rest) (sym (rows_at text u)) ∙ take-append-drop (rows_length rows) text in
    drop-seam rows (whole_rows rest) (drop u (whole_rows text)) (
    sym (whole_before rows rest (All-take IsLine u (whole_rows text) (whole_are_lines text)))
    ∙ ap whole_rows all ∙ sym (take-append-drop u (whole_rows text))
    )

nothing_said : (rows : List (List ℕ)) (said : List Item) → up_to_record said ≡ 0
    → lines_in rows said ≡ lines_value [] 0
nothing_said rows said e = rw e refl

nothing_read : (text : List ℕ) (said : List Item) → items_of 1 (whole_rows text) ≡ Ok said
    → lines_of (drop (lines_in (whole_rows text) said).whole text) ≡ Ok (lines_value [] 0)
unfolding rest_at
nothing_read text said e =
    let u = up_to_record said in
    let more = drop u said in
    let rows = rest_rows text u in
    let say : Say (drop u (whole_rows text)) more =
    sym (drop-map row_item u (whole_rows text))
    ∙ ap (drop u) (rows_say 1 (whole_rows text) said e) ∙ drop-map some_item u said in
    let read : items_of 1 (whole_rows (rest_at text u)) ≡ Ok more =
    rw rows (all_said 1 (drop u (whole_rows text)) more say) in
    lines_read (rest_at text u) more read
    ∙ ap (λ (v : LinesValue). Ok v)
    (nothing_said (whole_rows (rest_at text u)) more (none_more said))

-- nothing is said after what is whole
pub nothing_more : (text : List ℕ) (lines : LinesValue) → lines_of text ≡ Ok lines
    → lines_of (drop lines.whole text) ≡ Ok (lines_value [] 0)
nothing_more text lines e =
    let read = items_read text lines e in
    ap (λ (v : LinesValue). lines_of (drop v.whole text)) read.2
    ∙ nothing_read text read.0 read.1
