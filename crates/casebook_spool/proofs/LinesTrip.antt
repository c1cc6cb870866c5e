-- Rows say the notes and the records of which they are the rows.
use Rattle.std.proofs.Common.{◌≡◌, ◌∙◌, ℕ, ◌+◌, List, [], ◌∷◌, ◌++◌, Ok, Option, Some, All, ap}
use Rattle.std.proofs.Common.{codes, map, refl}
use Rattle.std.proofs.lemmas.List.{map-append}
use Rattle.std.proofs.lemmas.List.Elements.{All-cons, All-head, All-nil, All-tail}
use Rattle.casebook_rows.specs.Reading.{text_of}
use Rattle.casebook_rows.specs.Rows.{IsInRow, fields_of}
use Rattle.casebook_rows.specs.Written.{escaped}
use Rattle.casebook_rows.proofs.InRow.{text_in_row}
use Rattle.casebook_rows.proofs.RowTrip.{fields_again}
use Rattle.casebook_rows.proofs.Trip.{text_again}
use Rattle.casebook_record.specs.Records.{record_in}
use Rattle.casebook_record.specs.declared.record.Record.{Record}
use Rattle.casebook_spool.specs.Lines.{items_of}
use Rattle.casebook_spool.specs.Reading.{item_of}
use Rattle.casebook_spool.specs.Valid.{AreBytes, IsNote}
use Rattle.casebook_spool.specs.Written.{note_row, record_row, row_words}
use Rattle.casebook_spool.specs.declared.item.Item.{Item}
use Rattle.casebook_spool.specs.declared.item.Item.TheVariants as items
use Rattle.casebook_spool.specs.declared.note.Note.{Note}
use Rattle.casebook_spool.proofs.NoteTrip.{note_again, note_in_row, note_word, record_plain}
use Rattle.casebook_spool.proofs.WholeRows.{IsLine, row_is_line}

-- ---- rows of records

texts_in_row : (fields : List (List ℕ)) → All (All IsInRow) (map escaped fields)
texts_in_row [] = All-nil (All IsInRow)
texts_in_row (field ∷ fields) =
    All-cons (All IsInRow) (escaped field) (map escaped fields) (text_in_row field)
    (texts_in_row fields)

texts_again : (fields : List (List ℕ)) → All AreBytes fields
    → map text_of (map escaped fields) ≡ fields
texts_again [] h = refl
texts_again (field ∷ fields) h =
    ap (λ f. f ∷ map text_of (map escaped fields))
    (text_again field (All-head AreBytes field fields h))
    ∙ ap (λ fs. field ∷ fs) (texts_again fields (All-tail AreBytes field fields h))

record_in_row : (fields : List (List ℕ))
    → All (All IsInRow) ((record_row fields).0 ∷ (record_row fields).1)
record_in_row fields =
    All-cons (All IsInRow) (codes "record") (map escaped fields) record_plain (texts_in_row fields)

pub record_is_line : (fields : List (List ℕ)) → IsLine (row_words (record_row fields))
record_is_line fields = row_is_line (codes "record") (map escaped fields) (record_in_row fields)

record_item : (fields : List (List ℕ)) (r : Record) → All AreBytes fields → record_in fields ≡ Ok r
    → item_of (fields_of (row_words (record_row fields))) ≡ Some (items.Record r)
unfolding item_of
record_item fields r h e =
    rw (
      fields_again (codes "record") (map escaped fields) (record_in_row fields),
      texts_again fields h,
      e,
    )
    refl

-- ---- rows of notes

abbrev pub note_words : Note → List ℕ
note_words note = row_words (note_row note)

note_is_line : (n : Note) → IsNote n → IsLine (note_words n)
note_is_line n h = row_is_line (note_row n).0 (note_row n).1 (note_in_row n h)

pub notes_are_lines : (notes : List Note) → All IsNote notes → All IsLine (map note_words notes)
notes_are_lines [] h = All-nil IsLine
notes_are_lines (note ∷ notes) h =
    All-cons IsLine (note_words note) (map note_words notes)
    (note_is_line note (All-head IsNote note notes h))
    (notes_are_lines notes (All-tail IsNote note notes h))

note_item : (n : Note) → IsNote n → item_of (fields_of (note_words n)) ≡ Some (items.Note n)
unfolding item_of
note_item n h =
    rw (
      fields_again (note_row n).0 (note_row n).1 (note_in_row n h),
      note_word n,
      note_again n h,
    )
    refl

-- ---- what rows say

abbrev pub row_item : List ℕ → Option Item
row_item row = item_of (fields_of row)

abbrev pub some_item : Item → Option Item
some_item item = Some item

-- each row says an item
abbrev pub Say : List (List ℕ) → List Item → Type 0
Say rows said = map row_item rows ≡ map some_item said

pub both_say : (rows more : List (List ℕ)) (said others : List Item) → Say rows said
    → Say more others → Say (rows ++ more) (said ++ others)
both_say rows more said others h k =
    let from = map-append row_item rows more in
    let to = map-append some_item said others in
    cc

pub all_said : (n : ℕ) (rows : List (List ℕ)) (said : List Item) → Say rows said
    → items_of n rows ≡ Ok said
unfolding items_of
all_said n [] [] h = refl
all_said n [] (item ∷ said) h = absurd (cc)
all_said n (row ∷ rows) [] h = absurd (cc)
all_said n (row ∷ rows) (item ∷ said) h =
    let one : row_item row ≡ Some item = cc in
    let more : map row_item rows ≡ map some_item said = cc in
    rw (one, all_said (n + 1) rows said more) refl

abbrev pub note_items : List Note → List Item
note_items notes = map (λ note. items.Note note) notes

pub notes_say : (notes : List Note) → All IsNote notes
    → Say (map note_words notes) (note_items notes)
notes_say [] h = refl
notes_say (note ∷ notes) h =
    rw (
      note_item note (All-head IsNote note notes h),
      notes_say notes (All-tail IsNote note notes h),
    )
    refl

pub record_says : (fields : List (List ℕ)) (r : Record) → All AreBytes fields
    → record_in fields ≡ Ok r → Say (row_words (record_row fields) ∷ []) (items.Record r ∷ [])
record_says fields r h e = rw (record_item fields r h e) refl
