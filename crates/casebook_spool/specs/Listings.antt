-- The files `first` and `listing`.
use Rattle.std.specs.Prelude.{ℕ, ◌==◌, List, [], ◌∷◌, length, Option, Some, None, codes}
use Rattle.std.specs.Prelude.{if◌then◌else◌}
use Rattle.retro_path.specs.Order.{text_eq}
use Rattle.casebook_rows.specs.Reading.{unsigned_of}
use Rattle.casebook_rows.specs.Rows.{fields_of}
use Rattle.casebook_spool.specs.Lines.{whole_rows}
use Rattle.casebook_spool.specs.Reading.{◌>>=◌, note_of}
use Rattle.casebook_spool.specs.declared.head.Head.{Head}
use Rattle.casebook_spool.specs.Said.{ListingValue}
use Rattle.casebook_spool.specs.declared.note.Note.{Note}

-- the first row: to which byte of the file `lines` it goes, and how many notes follow
unfoldable pub head_of : List (List ℕ) → Option Head
head_of (word ∷ at ∷ count ∷ []) =
    if text_eq word (codes "listing") then (do
      a ← unsigned_of 10 64 at
      n ← unsigned_of 10 64 count
      Some (record { at = a; count = n }))
    else None
head_of _ = None

-- the notes that rows are, if each is one
unfoldable pub notes_of : List (List ℕ) → Option (List Note)
notes_of [] = Some []
notes_of (row ∷ rows) = do
  note ← note_of (fields_of row)
  notes ← notes_of rows
  Some (note ∷ notes)

-- a listing with as many notes as its head says
abbrev pub listing_with : Head → List Note → Option ListingValue
listing_with head notes =
    if length notes == head.count then Some (record { at = head.at; said = notes }) else None

-- the listing that rows are
abbrev pub listing_in : List (List ℕ) → Option ListingValue
listing_in [] = None
listing_in (row ∷ rows) = do
  head ← head_of (fields_of row)
  notes ← notes_of rows
  listing_with head notes

-- The listing that the rows of a text are that a newline ends, or None if they are wrong or too few.
unfoldable pub listing_of : List ℕ → Option ListingValue
listing_of text = listing_in (whole_rows text)
