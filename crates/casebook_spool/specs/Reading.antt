-- Rows that are notes or records.
use Rattle.std.specs.Prelude.{ℕ, List, [], ◌∷◌, Option, Some, None, codes, map, option_map}
use Rattle.std.specs.Prelude.{if◌then◌else◌}
use Rattle.std.specs.Result.{result_ok}
use Rattle.retro_path.specs.Order.{text_eq}
use Rattle.retro_path.specs.Path.{PathValue}
use Rattle.casebook_folder.specs.declared.attributes.Attributes.{Attributes}
use Rattle.casebook_rows.specs.Reading.{digest_of, path_of, signed_of, text_of, unsigned_of}
use Rattle.casebook_record.specs.Records.{record_in}
use Rattle.casebook_record.specs.declared.record.Record.{Record}
use Rattle.casebook_watch.specs.declared.file_time.FileTime.{FileTime}
use Rattle.casebook_watch.specs.declared.kind.Kind.{Kind}
use Rattle.casebook_watch.specs.declared.kind.Kind.TheVariants as kinds
use Rattle.casebook_watch.specs.declared.sight.Sight.{Sight}
use Rattle.casebook_spool.specs.declared.content.Content.{Content}
use Rattle.casebook_spool.specs.declared.content.Content.TheVariants as contents
use Rattle.casebook_spool.specs.declared.content.Unkept.{Unkept}
use Rattle.casebook_spool.specs.declared.content.Unkept.TheVariants as unkepts
use Rattle.casebook_spool.specs.declared.item.Item.{Item}
use Rattle.casebook_spool.specs.declared.item.Item.TheVariants as items
use Rattle.casebook_spool.specs.declared.note.Note.{Note}
use Rattle.casebook_spool.specs.declared.note.Note.TheVariants as notes
use Rattle.casebook_spool.specs.declared.word.Word.{Word}
use Rattle.casebook_spool.specs.declared.word.Word.TheVariants as words

-- the record of fields
abbrev pub record_of : List (List ℕ) → Option Record
record_of fields = result_ok (record_in (map text_of fields))

infixl 10 ◌>>=◌
abbrev pub ◌>>=◌ : {A B : Type 0} → Option A → (A → Option B) → Option B
(Some x) >>= f = f x
None >>= f = None

-- the word of a note
unfoldable pub word_of : List ℕ → Option Word
word_of field =
    if text_eq field (codes "dir") then Some (words.Seen kinds.Dir)
    else if text_eq field (codes "file") then Some (words.Seen kinds.File)
    else if text_eq field (codes "link") then Some (words.Seen kinds.Link)
    else if text_eq field (codes "other") then Some (words.Seen kinds.Other)
    else if text_eq field (codes "gone") then Some words.Gone
    else if text_eq field (codes "bytes") then Some words.Bytes
    else if text_eq field (codes "target") then Some words.Target
    else if text_eq field (codes "unkept") then Some words.Unkept
    else if text_eq field (codes "looked") then Some words.Looked
    else None

-- a second since the beginning of 1970 and a nanosecond
abbrev pub time_of : List ℕ → List ℕ → Option FileTime
time_of second nanosecond = do
  s ← signed_of second
  n ← unsigned_of 10 32 nanosecond
  Some (record { second = s; nanosecond = n })

abbrev pub attributes_of : List ℕ → List ℕ → List ℕ → Option Attributes
attributes_of mode user group = do
  m ← unsigned_of 8 32 mode
  u ← unsigned_of 10 32 user
  g ← unsigned_of 10 32 group
  Some (record { mode = m; uid = u; gid = g })

-- when something was read, written and changed
unfoldable pub times_of : List (List ℕ) → Option (FileTime × FileTime × FileTime)
times_of (rs ∷ rn ∷ ws ∷ wn ∷ cs ∷ cn ∷ []) = do
  r ← time_of rs rn
  w ← time_of ws wn
  c ← time_of cs cn
  Some (r, w, c)
times_of _ = None

-- mode, owner, group, size and number, and when it was read, written and changed
unfoldable pub sight_of : Kind → List (List ℕ) → Option Sight
sight_of kind (mode ∷ user ∷ group ∷ size ∷ number ∷ times) = do
  a ← attributes_of mode user group
  s ← unsigned_of 10 64 size
  n ← unsigned_of 10 64 number
  t ← times_of times
  Some (record {
    kind = kind;
    size = s;
    number = n;
    attributes = a;
    read = t.0;
    written = t.1;
    changed = t.2;
  })
sight_of kind _ = None

-- why bytes aren't kept
unfoldable pub unkept_of : List ℕ → Option Unkept
unkept_of field =
    if text_eq field (codes "too-large") then Some unkepts.TooLarge
    else if text_eq field (codes "unreadable") then Some unkepts.Unreadable
    else if text_eq field (codes "changing") then Some unkepts.Changing
    else None

-- the content that one field says, after a word
abbrev pub kept_of : List ℕ → Option Content
kept_of field = option_map (λ bytes. contents.Kept (record { bytes = bytes })) (digest_of field)

abbrev pub holds : PathValue → Option Content → Option Note
holds path content =
    option_map (λ c. notes.Holds (record { path = path; content = c })) content

abbrev pub seen : PathValue → Option Sight → Note
seen path sight = notes.Sight (record { path = path; sight = sight })

-- the note of a path, by its word and the fields after the path
unfoldable pub note_at : Word → PathValue → List (List ℕ) → Option Note
note_at (words.Seen kind) path fields =
    option_map (λ sight. seen path (Some sight)) (sight_of kind fields)
note_at words.Gone path [] = Some (seen path None)
note_at words.Bytes path (hex ∷ []) = holds path (kept_of hex)
note_at words.Target path (text ∷ []) = holds path (Some (contents.Target (text_of text)))
note_at words.Unkept path (why ∷ []) =
    holds path (option_map (λ reason. contents.Unkept reason) (unkept_of why))
note_at words.Looked path (second ∷ nanosecond ∷ []) =
    option_map (λ time. notes.Looked (record { path = path; read = time }))
    (time_of second nanosecond)
note_at _ path _ = None

-- the note that a row is
unfoldable pub note_of : List (List ℕ) → Option Note
note_of (word ∷ path ∷ fields) = do
  w ← word_of word
  p ← path_of path
  note_at w p fields
note_of _ = None

-- what a row of the file `lines` says
unfoldable pub item_of : List (List ℕ) → Option Item
item_of [] = None
item_of (word ∷ fields) =
    if text_eq word (codes "record") then option_map (λ r. items.Record r) (record_of fields)
    else option_map (λ note. items.Note note) (note_of (word ∷ fields))
