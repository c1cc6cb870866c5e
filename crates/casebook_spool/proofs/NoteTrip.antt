-- Notes are read back from their rows.
use Rattle.std.proofs.Common.{◌≡◌, ◌∙◌, ℕ, arith, List, [], ◌∷◌, ◌++◌, Option, Some, None, refl, ap, codes, decimal}
use Rattle.std.specs.Prelude.{All, Bool, true, false, ◌&&◌, nat_le}
use Rattle.std.specs.List.{list_all}
use Rattle.std.proofs.lemmas.Bool.{and_parts, leb-true}
use Rattle.std.proofs.lemmas.List.Elements.{All-append, All-cons, All-nil}
use Rattle.std.specs.Fmt.{signed_decimal}
use Rattle.hex.specs.Hex.{encode_lower}
use Rattle.retro_path.specs.Order.{text_eq}
use Rattle.retro_path.specs.Path.{PathValue}
use Rattle.casebook_folder.specs.declared.attributes.Attributes.{Attributes}
use Rattle.casebook_rows.specs.Rows.{IsInRow, fields_of}
use Rattle.casebook_rows.specs.Written.{escaped, octal, path_field}
use Rattle.casebook_rows.proofs.InRow.{digest_in_row, number_in_row, octal_in_row, path_in_row, signed_in_row, text_in_row}
use Rattle.casebook_rows.proofs.RowTrip.{fields_again}
use Rattle.casebook_rows.proofs.NumberTrip.{number_again, octal_again, signed_again}
use Rattle.casebook_rows.proofs.Trip.{digest_again, path_again, text_again}
use Rattle.casebook_watch.specs.declared.file_time.FileTime.{FileTime}
use Rattle.casebook_watch.specs.declared.kind.Kind.{Kind}
use Rattle.casebook_watch.specs.declared.kind.Kind.TheVariants as kinds
use Rattle.casebook_watch.specs.declared.sight.Sight.{Sight}
use Rattle.casebook_spool.specs.Reading.{attributes_of, note_at, note_of, seen, sight_of, time_of, times_of, unkept_of, word_of}
use Rattle.casebook_spool.specs.Valid.{AreAttributes, IsContent, IsNote, IsPath, IsSight, IsSightIfAny, IsTime}
use Rattle.casebook_spool.specs.Words.{kind_word, unkept_word}
use Rattle.casebook_spool.specs.Written.{attributes_fields, content_row, note_row, row_words, sight_fields, sight_row, time_fields, times_fields}
use Rattle.casebook_spool.specs.declared.content.Content.{Content}
use Rattle.casebook_spool.specs.declared.content.Content.TheVariants as contents
use Rattle.casebook_spool.specs.declared.content.Unkept.{Unkept}
use Rattle.casebook_spool.specs.declared.content.Unkept.TheVariants as unkepts
use Rattle.casebook_spool.specs.declared.note.Looked.{Looked}
use Rattle.casebook_spool.specs.declared.note.Note.{Note}
use Rattle.casebook_spool.specs.declared.note.Note.TheVariants as notes
use Rattle.casebook_spool.specs.declared.word.Word.TheVariants as words

-- a byte of the words with which rows begin
abbrev is_plain : ℕ → Bool
is_plain b = nat_le 45 b && nat_le b 122

plain_byte : (b : ℕ) → is_plain b ≡ true → IsInRow b
plain_byte b h =
    let parts = and_parts (nat_le 45 b) (nat_le b 122) h in
    let low = leb-true 45 b parts.0 in (λ e. omega (arith, low, e), λ e. omega (arith, low, e))

time_again : (t : FileTime) → IsTime t → time_of (signed_decimal t.second) (decimal t.nanosecond) ≡ Some t
time_again t h = rw (signed_again t.second h.0, number_again 32 t.nanosecond (omega arith) h.1) refl

attributes_again : (a : Attributes) → AreAttributes a
    → attributes_of (octal a.mode) (decimal a.uid) (decimal a.gid) ≡ Some a
attributes_again a h =
    rw (octal_again a.mode h.0, number_again 32 a.uid (omega arith) h.1, number_again 32 a.gid (omega arith) h.2) refl

times_again : (s : Sight) → IsTime s.read → IsTime s.written → IsTime s.changed
    → times_of (times_fields s) ≡ Some (s.read, s.written, s.changed)
unfolding times_of
times_again s r w c = rw (time_again s.read r, time_again s.written w, time_again s.changed c) refl

sight_again : (s : Sight) → IsSight s → sight_of s.kind (sight_fields s) ≡ Some s
unfolding sight_of
sight_again s h =
    rw (
      attributes_again s.attributes h.0,
      number_again 64 s.size (omega arith) h.1,
      number_again 64 s.number (omega arith) h.2,
      times_again s h.3 h.4 h.5,
    )
    refl

kind_again : (kind : Kind) → word_of (kind_word kind) ≡ Some (words.Seen kind)
unfolding word_of
kind_again kinds.Dir = refl
kind_again kinds.File = refl
kind_again kinds.Link = refl
kind_again kinds.Other = refl

unkept_again : (why : Unkept) → unkept_of (unkept_word why) ≡ Some why
unfolding unkept_of
unkept_again unkepts.TooLarge = refl
unkept_again unkepts.Unreadable = refl
unkept_again unkepts.Changing = refl

sight_row_again : (path : PathValue) (sight : Option Sight) → IsPath path → IsSightIfAny sight
    → note_of ((sight_row path sight).0 ∷ (sight_row path sight).1) ≡ Some (seen path sight)
unfolding note_of note_at word_of
sight_row_again path None p h = rw (path_again path p.0 p.1) refl
sight_row_again path (Some s) p h =
    rw (kind_again s.kind, path_again path p.0 p.1, sight_again s h) refl

content_row_again : (path : PathValue) (content : Content) → IsPath path → IsContent content
    → note_of ((content_row path content).0 ∷ (content_row path content).1)
    ≡ Some (notes.Holds (record { path = path; content = content }))
unfolding note_of note_at word_of
content_row_again path (contents.Kept digest) p h =
    rw (path_again path p.0 p.1, digest_again digest.bytes h.0 h.1) refl
content_row_again path (contents.Target target) p h =
    rw (path_again path p.0 p.1, text_again target h) refl
content_row_again path (contents.Unkept why) p h =
    rw (path_again path p.0 p.1, unkept_again why) refl

looked_again : (looked : Looked) → IsPath looked.path → IsTime looked.read
    → note_of ((note_row (notes.Looked looked)).0 ∷ (note_row (notes.Looked looked)).1)
    ≡ Some (notes.Looked looked)
unfolding note_of note_at word_of
looked_again looked p h = rw (path_again looked.path p.0 p.1, time_again looked.read h) refl

-- the fields of a note's row are read as the note
pub note_again : (n : Note) → IsNote n → note_of ((note_row n).0 ∷ (note_row n).1) ≡ Some n
note_again (notes.Sight change) h = sight_row_again change.path change.sight h.0 h.1
note_again (notes.Holds holds) h = content_row_again holds.path holds.content h.0 h.1
note_again (notes.Looked looked) h = looked_again looked h.0 h.1

-- ---- no field of a note has a tab or a newline

both : (xs ys : List (List ℕ)) → All (All IsInRow) xs → All (All IsInRow) ys
    → All (All IsInRow) (xs ++ ys)
both xs ys = All-append (All IsInRow) xs ys

time_in_row : (t : FileTime) → IsTime t → All (All IsInRow) (time_fields t)
time_in_row t h =
    All-cons (All IsInRow) (signed_decimal t.second) (decimal t.nanosecond ∷ []) (signed_in_row t.second h.0)
    (All-cons (All IsInRow) (decimal t.nanosecond) [] (number_in_row t.nanosecond (omega (arith, h.1))) (All-nil (All IsInRow)))

times_in_row : (s : Sight) → IsTime s.read → IsTime s.written → IsTime s.changed
    → All (All IsInRow) (times_fields s)
times_in_row s r w c =
    both (time_fields s.read) (time_fields s.written ++ time_fields s.changed) (time_in_row s.read r)
    (both (time_fields s.written) (time_fields s.changed) (time_in_row s.written w) (time_in_row s.changed c))

attributes_in_row : (a : Attributes) → AreAttributes a → All (All IsInRow) (attributes_fields a)
attributes_in_row a h =
    All-cons (All IsInRow) (octal a.mode) (decimal a.uid ∷ decimal a.gid ∷ []) (octal_in_row a.mode h.0)
    (All-cons (All IsInRow) (decimal a.uid) (decimal a.gid ∷ []) (number_in_row a.uid (omega (arith, h.1)))
    (All-cons (All IsInRow) (decimal a.gid) [] (number_in_row a.gid (omega (arith, h.2))) (All-nil (All IsInRow))))

sight_in_row : (s : Sight) → IsSight s → All (All IsInRow) (sight_fields s)
sight_in_row s h =
    both (attributes_fields s.attributes) (decimal s.size ∷ decimal s.number ∷ times_fields s)
    (attributes_in_row s.attributes h.0)
    (All-cons (All IsInRow) (decimal s.size) (decimal s.number ∷ times_fields s) (number_in_row s.size h.1)
    (All-cons (All IsInRow) (decimal s.number) (times_fields s) (number_in_row s.number h.2) (times_in_row s h.3 h.4 h.5)))

-- a word of ours has no tab and no newline
plain : (word : List ℕ) → list_all is_plain word ≡ true → All IsInRow word
plain [] h = All-nil IsInRow
plain (b ∷ bs) h =
    let parts = and_parts (is_plain b) (list_all is_plain bs) h in
    All-cons IsInRow b bs (plain_byte b parts.0) (plain bs parts.1)

one : (field : List ℕ) → All IsInRow field → All (All IsInRow) (field ∷ [])
one field h = All-cons (All IsInRow) field [] h (All-nil (All IsInRow))

after : (word : List ℕ) (path : PathValue) (fields : List (List ℕ)) → list_all is_plain word ≡ true
    → All (All IsInRow) fields → All (All IsInRow) (word ∷ path_field path ∷ fields)
after word path fields w h =
    All-cons (All IsInRow) word (path_field path ∷ fields) (plain word w)
    (All-cons (All IsInRow) (path_field path) fields (path_in_row path) h)

kind_plain : (kind : Kind) → list_all is_plain (kind_word kind) ≡ true
kind_plain kinds.Dir = refl
kind_plain kinds.File = refl
kind_plain kinds.Link = refl
kind_plain kinds.Other = refl

unkept_plain : (why : Unkept) → list_all is_plain (unkept_word why) ≡ true
unkept_plain unkepts.TooLarge = refl
unkept_plain unkepts.Unreadable = refl
unkept_plain unkepts.Changing = refl

sight_row_in_row : (path : PathValue) (sight : Option Sight) → IsSightIfAny sight
    → All (All IsInRow) ((sight_row path sight).0 ∷ (sight_row path sight).1)
sight_row_in_row path None h = after (codes "gone") path [] refl (All-nil (All IsInRow))
sight_row_in_row path (Some s) h =
    after (kind_word s.kind) path (sight_fields s) (kind_plain s.kind) (sight_in_row s h)

content_row_in_row : (path : PathValue) (content : Content)
    → All (All IsInRow) ((content_row path content).0 ∷ (content_row path content).1)
content_row_in_row path (contents.Kept digest) =
    after (codes "bytes") path (encode_lower digest.bytes ∷ []) refl (one _ (digest_in_row digest.bytes))
content_row_in_row path (contents.Target target) =
    after (codes "target") path (escaped target ∷ []) refl (one _ (text_in_row target))
content_row_in_row path (contents.Unkept why) =
    after (codes "unkept") path (unkept_word why ∷ []) refl (one _ (plain (unkept_word why) (unkept_plain why)))

pub note_in_row : (n : Note) → IsNote n → All (All IsInRow) ((note_row n).0 ∷ (note_row n).1)
note_in_row (notes.Sight change) h = sight_row_in_row change.path change.sight h.1
note_in_row (notes.Holds holds) h = content_row_in_row holds.path holds.content
note_in_row (notes.Looked looked) h =
    after (codes "looked") looked.path (time_fields looked.read) refl (time_in_row looked.read h.1)

-- a note is read back from its row
pub note_from_row : (n : Note) → IsNote n → note_of (fields_of (row_words (note_row n))) ≡ Some n
note_from_row n h =
    ap note_of (fields_again (note_row n).0 (note_row n).1 (note_in_row n h)) ∙ note_again n h

-- ---- words of rows: that of a note isn't that of a record

pub record_plain : All IsInRow (codes "record")
record_plain = plain (codes "record") refl

pub listing_plain : All IsInRow (codes "listing")
listing_plain = plain (codes "listing") refl

kind_no_record : (kind : Kind) → text_eq (kind_word kind) (codes "record") ≡ false
kind_no_record kinds.Dir = refl
kind_no_record kinds.File = refl
kind_no_record kinds.Link = refl
kind_no_record kinds.Other = refl

sight_no_record : (path : PathValue) (sight : Option Sight)
    → text_eq (sight_row path sight).0 (codes "record") ≡ false
sight_no_record path None = refl
sight_no_record path (Some s) = kind_no_record s.kind

content_no_record : (path : PathValue) (content : Content)
    → text_eq (content_row path content).0 (codes "record") ≡ false
content_no_record path (contents.Kept digest) = refl
content_no_record path (contents.Target target) = refl
content_no_record path (contents.Unkept why) = refl

pub note_word : (n : Note) → text_eq (note_row n).0 (codes "record") ≡ false
note_word (notes.Sight change) = sight_no_record change.path change.sight
note_word (notes.Holds holds) = content_no_record holds.path holds.content
note_word (notes.Looked looked) = refl
