-- A listing is read back from its text, and from no front of it.
use Rattle.std.proofs.Common.{◌≡◌, ◌∙◌, ℕ, suc, zero, ◌<◌, ◌^◌, List, [], ◌∷◌, ◌++◌, None, Some}
use Rattle.std.proofs.Common.{All, ap, arith, codes, decimal, length, map, refl, take}
use Rattle.std.proofs.lemmas.Bool.{eq-eqb, ne_eqb}
use Rattle.std.proofs.lemmas.List.{length-map, length-take-le, take-map}
use Rattle.std.proofs.lemmas.List.Elements.{All-cons, All-head, All-nil, All-tail, All-take}
use Rattle.casebook_rows.specs.Rows.{IsInRow, fields_of}
use Rattle.casebook_rows.proofs.InRow.{number_in_row}
use Rattle.casebook_rows.proofs.NumberTrip.{number_again}
use Rattle.casebook_rows.proofs.RowTrip.{fields_again}
use Rattle.casebook_spool.specs.Lines.{whole_rows}
use Rattle.casebook_spool.specs.Listings.{head_of, listing_in, listing_of, listing_with, notes_of}
use Rattle.casebook_spool.specs.Valid.{IsNote}
use Rattle.casebook_spool.specs.Written.{listing_row, listing_text, row_line, row_words}
use Rattle.casebook_spool.specs.declared.head.Head.{Head}
use Rattle.casebook_spool.specs.declared.note.Note.{Note}
use Rattle.casebook_spool.proofs.LinesTrip.{note_words, notes_are_lines}
use Rattle.casebook_spool.proofs.NoteTrip.{listing_plain, note_from_row}
use Rattle.casebook_spool.proofs.Observations.{notes_ended}
use Rattle.casebook_spool.proofs.WholeRows.{IsCutAt, IsLine, cut_rows, ended, row_is_line}
use Rattle.casebook_spool.proofs.WholeRows.{whole_all}

-- ---- the first row

abbrev head_words : ℕ → ℕ → List ℕ
head_words at count = row_words (listing_row at count)

abbrev head : ℕ → ℕ → Head
head at count = record { at = at; count = count }

head_in_row : (at count : ℕ) → at < 2 ^ 64 → count < 2 ^ 64
    → All (All IsInRow) ((listing_row at count).0 ∷ (listing_row at count).1)
head_in_row at count a c =
    All-cons (All IsInRow) (codes "listing") (decimal at ∷ decimal count ∷ []) listing_plain
    (All-cons (All IsInRow) (decimal at) (decimal count ∷ []) (number_in_row at a)
    (All-cons (All IsInRow) (decimal count) [] (number_in_row count c) (All-nil (All IsInRow))))

head_again : (at count : ℕ) → at < 2 ^ 64 → count < 2 ^ 64
    → head_of (fields_of (head_words at count)) ≡ Some (head at count)
unfolding head_of
head_again at count a c =
    rw (
      fields_again (codes "listing") (decimal at ∷ decimal count ∷ []) (head_in_row at count a c),
      number_again 64 at (omega arith) a,
      number_again 64 count (omega arith) c,
    )
    refl

-- ---- the rows

abbrev rows_of_listing : ℕ → List Note → List (List ℕ)
rows_of_listing at notes = head_words at (length notes) ∷ map note_words notes

listing_ended : (at : ℕ) (notes : List Note)
    → listing_text at notes ≡ ended (rows_of_listing at notes)
listing_ended at notes =
    ap (λ text. row_line (listing_row at (length notes)) ++ text) (notes_ended notes)

listing_lines : (at : ℕ) (notes : List Note) → at < 2 ^ 64 → length notes < 2 ^ 64
    → All IsNote notes → All IsLine (rows_of_listing at notes)
listing_lines at notes a c h =
    All-cons IsLine (head_words at (length notes)) (map note_words notes)
    (row_is_line (codes "listing") (decimal at ∷ decimal (length notes) ∷ [])
    (head_in_row at (length notes) a c))
    (notes_are_lines notes h)

notes_read : (notes : List Note) → All IsNote notes → notes_of (map note_words notes) ≡ Some notes
unfolding notes_of
notes_read [] h = refl
notes_read (note ∷ notes) h =
    rw (
      note_from_row note (All-head IsNote note notes h),
      notes_read notes (All-tail IsNote note notes h),
    )
    refl

-- a first row and rows of notes, as many as it says or not
rows_read : (at count : ℕ) (notes : List Note) → at < 2 ^ 64 → count < 2 ^ 64 → All IsNote notes
    → listing_in (head_words at count ∷ map note_words notes) ≡ listing_with (head at count) notes
rows_read at count notes a c h = rw (head_again at count a c, notes_read notes h) refl

-- ---- the whole listing

pub listing_again : (at : ℕ) (notes : List Note) → at < 2 ^ 64 → length notes < 2 ^ 64
    → All IsNote notes
    → listing_of (listing_text at notes) ≡ Some (record { at = at; said = notes })
unfolding listing_of
listing_again at notes a c h =
    ap (λ text. listing_in (whole_rows text)) (listing_ended at notes)
    ∙ ap listing_in (whole_all (rows_of_listing at notes) (listing_lines at notes a c h))
    ∙ rows_read at (length notes) notes a c h
    ∙ rw (eq-eqb (length notes) (length notes) refl) refl

-- ---- a front of it

-- fewer notes than the first row says
too_few : (at j : ℕ) (notes : List Note) → j < length notes
    → listing_with (head at (length notes)) (take j notes) ≡ None
too_few at j notes lt =
    let long = length-take-le j notes (omega (arith, lt)) in
    rw (ne_eqb (length (take j notes)) (length notes) (λ e. omega (arith, e, long, lt))) refl

no_listing : (at k : ℕ) (notes : List Note) → at < 2 ^ 64 → length notes < 2 ^ 64 → All IsNote notes
    → k < length (rows_of_listing at notes)
    → listing_in (take k (rows_of_listing at notes)) ≡ None
no_listing at zero notes a c h lt = refl
no_listing at (suc j) notes a c h lt =
    let all = length-map notes note_words in
    ap (λ rows. listing_in (head_words at (length notes) ∷ rows)) (take-map note_words j notes)
    ∙ rows_read at (length notes) (take j notes) a c (All-take IsNote j notes h)
    ∙ too_few at j notes (omega (arith, lt, all))

cut_listing : (at n : ℕ) (notes : List Note) → at < 2 ^ 64 → length notes < 2 ^ 64
    → All IsNote notes → IsCutAt (rows_of_listing at notes) n
    → listing_in (whole_rows (take n (ended (rows_of_listing at notes)))) ≡ None
cut_listing at n notes a c h cut = ap listing_in cut.2 ∙ no_listing at cut.0 notes a c h cut.1

pub no_front : (at : ℕ) (notes : List Note) (n : ℕ) → at < 2 ^ 64 → length notes < 2 ^ 64
    → All IsNote notes → n < length (listing_text at notes)
    → listing_of (take n (listing_text at notes)) ≡ None
unfolding listing_of
no_front at notes n a c h lt =
    let long = ap length (listing_ended at notes) in
    ap (λ text. listing_in (whole_rows (take n text))) (listing_ended at notes)
    ∙ cut_listing at n notes a c h
    (cut_rows (rows_of_listing at notes) n (listing_lines at notes a c h) (omega (arith, lt, long)))
