-- Notes and observations as rows.
use Rattle.std.specs.Prelude.{ℕ, List, [], ◌∷◌, ◌++◌, Option, Some, None, codes, decimal, flat_map, length}
use Rattle.std.specs.Prelude.{map}
use Rattle.std.specs.Fmt.{signed_decimal}
use Rattle.std.specs.FinMap as finmap
use Rattle.hex.specs.Hex.{encode_lower}
use Rattle.retro_path.specs.Path.{PathValue}
use Rattle.casebook_folder.specs.declared.attributes.Attributes.{Attributes}
use Rattle.casebook_rows.specs.Rows.{newline, row_text}
use Rattle.casebook_rows.specs.Written.{escaped, octal, path_field}
use Rattle.casebook_watch.specs.Delta.{new_sight}
use Rattle.casebook_watch.specs.Sights.{Sights}
use Rattle.casebook_watch.specs.declared.file_time.FileTime.{FileTime}
use Rattle.casebook_watch.specs.declared.sight.Sight.{Sight}
use Rattle.casebook_spool.specs.Words.{kind_word, unkept_word}
use Rattle.casebook_spool.specs.declared.content.Content.{Content}
use Rattle.casebook_spool.specs.declared.content.Content.TheVariants as contents
use Rattle.casebook_spool.specs.declared.note.Note.{Note}
use Rattle.casebook_spool.specs.declared.note.Note.TheVariants as notes

-- a word and its fields
abbrev pub Row : Type 0
Row = List ℕ × List (List ℕ)

-- seconds since the beginning of 1970, and nanoseconds
abbrev pub time_fields : FileTime → List (List ℕ)
time_fields t = signed_decimal t.second ∷ decimal t.nanosecond ∷ []

-- mode, owner and group
abbrev pub attributes_fields : Attributes → List (List ℕ)
attributes_fields a = octal a.mode ∷ decimal a.uid ∷ decimal a.gid ∷ []

-- when it was read, written and changed
abbrev pub times_fields : Sight → List (List ℕ)
times_fields s = time_fields s.read ++ time_fields s.written ++ time_fields s.changed

-- mode, owner, group, size and number, and when it was read, written and changed
abbrev pub sight_fields : Sight → List (List ℕ)
sight_fields s =
    attributes_fields s.attributes ++ decimal s.size ∷ decimal s.number ∷ times_fields s

-- the sight that a path has, or that nothing is there
abbrev pub sight_row : PathValue → Option Sight → Row
sight_row path None = (codes "gone", path_field path ∷ [])
sight_row path (Some s) = (kind_word s.kind, path_field path ∷ sight_fields s)

abbrev pub content_row : PathValue → Content → Row
content_row path (contents.Kept digest) =
    (codes "bytes", path_field path ∷ encode_lower digest.bytes ∷ [])
content_row path (contents.Target text) = (codes "target", path_field path ∷ escaped text ∷ [])
content_row path (contents.Unkept why) = (codes "unkept", path_field path ∷ unkept_word why ∷ [])

abbrev pub note_row : Note → Row
note_row (notes.Sight change) = sight_row change.path change.sight
note_row (notes.Holds holds) = content_row holds.path holds.content
note_row (notes.Looked looked) =
    (codes "looked", path_field looked.path ∷ time_fields looked.read)

-- a row without its newline, and with it
abbrev pub row_words : Row → List ℕ
row_words row = row_text row.0 row.1

abbrev pub row_line : Row → List ℕ
row_line row = row_words row ++ newline ∷ []

-- a row for each note
abbrev pub notes_text : List Note → List ℕ
notes_text notes = flat_map (λ note. row_line (note_row note)) notes

-- a record, by its fields
abbrev pub record_row : List (List ℕ) → Row
record_row fields = (codes "record", map escaped fields)

-- notes, and then the record to which they belong
abbrev pub observation_text : List Note → List (List ℕ) → List ℕ
observation_text notes fields = notes_text notes ++ row_line (record_row fields)

-- to which byte of the file `lines` a listing goes, and how many notes it has
abbrev pub listing_row : ℕ → ℕ → Row
listing_row at count = (codes "listing", decimal at ∷ decimal count ∷ [])

abbrev pub listing_text : ℕ → List Note → List ℕ
listing_text at notes = row_line (listing_row at (length notes)) ++ notes_text notes

-- the note of a path's sight
abbrev pub sight_note : PathValue × Sight → Note
sight_note e = notes.Sight (new_sight e)

-- the notes of all sights of a look
abbrev pub sights_notes : Sights → List Note
sights_notes sights = map sight_note (finmap.entries sights)
