-- Observations are read back from their texts, whatever was cut off after them.
use Rattle.std.proofs.Common.{◌≡◌, ◌∙◌, ℕ, suc, ◌+◌, ◌<◌, List, [], ◌∷◌, ◌++◌, Ok, All, ap}
use Rattle.std.proofs.Common.{append_assoc, append-nil, arith, flat_map, length, length-append, map}
use Rattle.std.proofs.Common.{refl, sym, take}
use Rattle.std.specs.Prelude.{if◌then◌else◌, nat_lt}
use Rattle.std.proofs.lemmas.Bool.{lt-ltb}
use Rattle.std.proofs.lemmas.Grind.{flat_map-append}
use Rattle.std.proofs.lemmas.List.{length-map, take-append-le, take-map, take_at}
use Rattle.std.proofs.lemmas.List.Elements.{All-append, All-cons, All-head, All-nil, All-tail}
use Rattle.std.proofs.lemmas.List.Elements.{All-take}
use Rattle.std.proofs.lemmas.List.Folds.{flat_map-map}
use Rattle.casebook_record.specs.declared.record.Record.{Record}
use Rattle.casebook_spool.specs.Lines.{items_of, lines_in, lines_of, rows_length, up_to_record}
use Rattle.casebook_spool.specs.Lines.{whole_rows}
use Rattle.casebook_spool.specs.ReadBack as back
use Rattle.casebook_spool.specs.ReadBack.{IsCutOff, IsObservation, Observation}
use Rattle.casebook_spool.specs.Said.{LinesValue}
use Rattle.casebook_spool.specs.Valid.{IsNote}
use Rattle.casebook_spool.specs.Written.{notes_text, record_row, row_line, row_words}
use Rattle.casebook_spool.specs.declared.item.Item.{Item}
use Rattle.casebook_spool.specs.declared.item.Item.TheVariants as items
use Rattle.casebook_spool.specs.declared.note.Note.{Note}
use Rattle.casebook_spool.proofs.LinesRead.{lines_read}
use Rattle.casebook_spool.proofs.LinesTrip.{Say, all_said, both_say, note_items, note_words}
use Rattle.casebook_spool.proofs.LinesTrip.{notes_are_lines, notes_say, record_is_line, record_says}
use Rattle.casebook_spool.proofs.WholeRows.{IsCutAt, IsLine, cut_rows, ended, length_ended}
use Rattle.casebook_spool.proofs.WholeRows.{whole_before}

-- ---- the rows of observations

abbrev record_words : Observation → List ℕ
record_words o = row_words (record_row o.fields)

abbrev rows_of_one : Observation → List (List ℕ)
rows_of_one o = map note_words o.noted ++ record_words o ∷ []

abbrev rows_of_all : List Observation → List (List ℕ)
rows_of_all os = flat_map rows_of_one os

pub notes_ended : (notes : List Note) → notes_text notes ≡ ended (map note_words notes)
notes_ended notes = sym (flat_map-map (λ row. row ++ 10 ∷ []) note_words notes)

one_ended : (o : Observation) → back.text_of o ≡ ended (rows_of_one o)
one_ended o =
    ap (λ text. text ++ row_line (record_row o.fields)) (notes_ended o.noted)
    ∙ ap (λ text. ended (map note_words o.noted) ++ text)
    (sym (append-nil (row_line (record_row o.fields))))
    ∙ sym (flat_map-append (λ row. row ++ 10 ∷ []) (map note_words o.noted) (record_words o ∷ []))

all_ended : (os : List Observation) → flat_map back.text_of os ≡ ended (rows_of_all os)
all_ended [] = refl
all_ended (o ∷ os) =
    ap (λ text. text ++ flat_map back.text_of os) (one_ended o)
    ∙ ap (λ text. ended (rows_of_one o) ++ text) (all_ended os)
    ∙ sym (flat_map-append (λ row. row ++ 10 ∷ []) (rows_of_one o) (rows_of_all os))

lines_of_one : (o : Observation) → IsObservation o → All IsLine (rows_of_one o)
lines_of_one o h =
    All-append IsLine (map note_words o.noted) (record_words o ∷ []) (notes_are_lines o.noted h.0)
    (All-cons IsLine (record_words o) [] (record_is_line o.fields) (All-nil IsLine))

lines_of_all : (os : List Observation) → All IsObservation os → All IsLine (rows_of_all os)
lines_of_all [] h = All-nil IsLine
lines_of_all (o ∷ os) h =
    All-append IsLine (rows_of_one o) (rows_of_all os)
    (lines_of_one o (All-head IsObservation o os h))
    (lines_of_all os (All-tail IsObservation o os h))

-- ---- what they say

one_says : (o : Observation) → IsObservation o → Say (rows_of_one o) (back.items_of o)
one_says o h =
    both_say (map note_words o.noted) (record_words o ∷ [])
    (note_items o.noted) (items.Record o.said ∷ [])
    (notes_say o.noted h.0) (record_says o.fields o.said h.1 h.2)

all_say : (os : List Observation) → All IsObservation os
    → Say (rows_of_all os) (flat_map back.items_of os)
all_say [] h = refl
all_say (o ∷ os) h =
    both_say (rows_of_one o) (rows_of_all os) (back.items_of o) (flat_map back.items_of os)
    (one_says o (All-head IsObservation o os h)) (all_say os (All-tail IsObservation o os h))

as_many_of_one : (o : Observation) → length (rows_of_one o) ≡ length (back.items_of o)
as_many_of_one o =
    let rows = length-append (map note_words o.noted) (record_words o ∷ []) in
    let said = length-append (note_items o.noted) (items.Record o.said ∷ []) in
    let one = length-map o.noted note_words in
    let other = length-map o.noted (λ note. items.Note note) in
    omega (arith, rows, said, one, other)

as_many_of_all : (os : List Observation)
    → length (rows_of_all os) ≡ length (flat_map back.items_of os)
as_many_of_all [] = refl
as_many_of_all (o ∷ os) =
    let rows = length-append (rows_of_one o) (rows_of_all os) in
    let said = length-append (back.items_of o) (flat_map back.items_of os) in
    let one = as_many_of_one o in
    let more = as_many_of_all os in
    omega (arith, rows, said, one, more)

-- ---- how many items there are up to the last record

none_in_notes : (notes : List Note) → up_to_record (note_items notes) ≡ 0
none_in_notes [] = refl
none_in_notes (note ∷ notes) = rw (none_in_notes notes) refl

one_more : (m k : ℕ) → m ≡ k → 0 < k → (if nat_lt 0 m then suc m else 0) ≡ suc k
one_more m k e h = rw (lt-ltb 0 m (omega (arith, e, h))) (ap suc e)

through_record : (notes : List Note) (r : Record) (more : List Item)
    → up_to_record (note_items notes ++ items.Record r ∷ more)
    ≡ length notes + suc (up_to_record more)
through_record [] r more = omega arith
through_record (note ∷ notes) r more =
    let rest = one_more (up_to_record (note_items notes ++ items.Record r ∷ more))
    (length notes + suc (up_to_record more)) (through_record notes r more) (omega arith) in
    rest ∙ omega arith

regroup : (said : List Item) (r : Item) (more others : List Item)
    → ((said ++ r ∷ []) ++ more) ++ others ≡ said ++ r ∷ (more ++ others)
regroup said r more others = simp append_assoc

all_counted : (os : List Observation) (notes : List Note)
    → up_to_record (flat_map back.items_of os ++ note_items notes)
    ≡ length (flat_map back.items_of os)
all_counted [] notes = none_in_notes notes
all_counted (o ∷ os) notes =
    let rest = all_counted os notes in
    let here = ap up_to_record
    (regroup (note_items o.noted) (items.Record o.said) (flat_map back.items_of os)
    (note_items notes))
    ∙ through_record o.noted o.said (flat_map back.items_of os ++ note_items notes) in
    let said = length-append (note_items o.noted) (items.Record o.said ∷ []) in
    let one = length-map o.noted (λ note. items.Note note) in
    let all = length-append (back.items_of o) (flat_map back.items_of os) in
    here ∙ omega (arith, rest, said, one, all)

-- ---- what is cut off

-- the whole rows are those of some notes
abbrev HasNotes : List ℕ → Type 0
HasNotes text =
    (notes : List Note) × All IsNote notes × (whole_rows text ≡ map note_words notes)

before_record : (o : Observation) (k : ℕ) → k < length (rows_of_one o)
    → take k (rows_of_one o) ≡ map note_words (take k o.noted)
before_record o k lt =
    let rows = length-append (map note_words o.noted) (record_words o ∷ []) in
    take-append-le k (map note_words o.noted) (record_words o ∷ []) (omega (arith, rows, lt))
    ∙ take-map note_words k o.noted

notes_at : (o : Observation) (n : ℕ) → IsObservation o → IsCutAt (rows_of_one o) n
    → HasNotes (take n (ended (rows_of_one o)))
notes_at o n h cut =
    (take cut.0 o.noted, All-take IsNote cut.0 o.noted h.0, cut.2 ∙ before_record o cut.0 cut.1)

notes_of_front : (o : Observation) (n : ℕ) → IsObservation o → n < length (ended (rows_of_one o))
    → HasNotes (take n (ended (rows_of_one o)))
notes_of_front o n h lt = notes_at o n h (cut_rows (rows_of_one o) n (lines_of_one o h) lt)

notes_of_cut : (text : List ℕ) → IsCutOff text → HasNotes text
notes_of_cut text cut =
    let whole = ap length (one_ended cut.0) in
    let is : text ≡ take cut.1 (ended (rows_of_one cut.0)) =
    cut.4 ∙ ap (take cut.1) (one_ended cut.0) in
    rw is (notes_of_front cut.0 cut.1 cut.2 (omega (arith, cut.3, whole)))

-- ---- all of it

-- items up to the last record are taken, and others are not
parted : (rows more : List (List ℕ)) (said others : List Item) → length rows ≡ length said
    → up_to_record (said ++ others) ≡ length said
    → lines_in (rows ++ more) (said ++ others) ≡ record { said = said; whole = rows_length rows }
parted rows more said others e h =
    rw (h, take_at said others (length said) refl, take_at rows more (length said) e) refl

abbrev lines_value : List Item → ℕ → LinesValue
lines_value said whole = record { said = said; whole = whole }

with_notes : (os : List Observation) (cut_off : List ℕ) (notes : List Note) → All IsObservation os
    → All IsNote notes → whole_rows cut_off ≡ map note_words notes
    → lines_of (flat_map back.text_of os ++ cut_off)
    ≡ Ok (lines_value (flat_map back.items_of os) (length (flat_map back.text_of os)))
with_notes os cut_off notes h k e =
    let rows : List (List ℕ) = rows_of_all os ++ map note_words notes in
    let said : List Item = flat_map back.items_of os ++ note_items notes in
    let whole : whole_rows (flat_map back.text_of os ++ cut_off) ≡ rows =
    ap (λ text. whole_rows (text ++ cut_off)) (all_ended os)
    ∙ whole_before (rows_of_all os) cut_off (lines_of_all os h)
    ∙ ap (λ more. rows_of_all os ++ more) e in
    let read : items_of 1 rows ≡ Ok said = all_said 1 rows said
    (both_say (rows_of_all os) (map note_words notes) (flat_map back.items_of os) (note_items notes)
    (all_say os h) (notes_say notes k)) in
    let long : rows_length (rows_of_all os) ≡ length (flat_map back.text_of os) =
    length_ended (rows_of_all os) ∙ ap length (sym (all_ended os)) in
    lines_read (flat_map back.text_of os ++ cut_off) said (rw whole read)
    ∙ ap (λ all. Ok (lines_in all said)) whole
    ∙ ap (λ (all : LinesValue). Ok all)
    (parted (rows_of_all os) (map note_words notes) (flat_map back.items_of os) (note_items notes)
    (as_many_of_all os) (all_counted os notes))
    ∙ ap (λ n. Ok (lines_value (flat_map back.items_of os) n)) long

-- observations are read back from their texts
pub lines_again : (observations : List Observation) (cut_off : List ℕ)
    → All IsObservation observations → IsCutOff cut_off
    → lines_of (flat_map back.text_of observations ++ cut_off)
    ≡ Ok (record {
      said = flat_map back.items_of observations;
      whole = length (flat_map back.text_of observations);
    })
lines_again os cut_off h cut =
    let some = notes_of_cut cut_off cut in
    with_notes os cut_off some.0 h some.1 some.2
