-- Sights after notes.
use Rattle.std.specs.Prelude.{List, fold, Option, Some, None}
use Rattle.std.specs.FinMap as finmap
use Rattle.retro_path.specs.Path.{PathValue}
use Rattle.casebook_watch.specs.Delta.{with_change}
use Rattle.casebook_watch.specs.Sights.{Sights}
use Rattle.casebook_watch.specs.declared.file_time.FileTime.{FileTime}
use Rattle.casebook_watch.specs.declared.sight.Sight.{Sight}
use Rattle.casebook_spool.specs.declared.item.Item.{Item}
use Rattle.casebook_spool.specs.declared.item.Item.TheVariants as items
use Rattle.casebook_spool.specs.declared.note.Looked.{Looked}
use Rattle.casebook_spool.specs.declared.note.Note.{Note}
use Rattle.casebook_spool.specs.declared.note.Note.TheVariants as notes

-- a sight with another time of the last reading
abbrev pub read_at : FileTime → Sight → Sight
read_at time s = record {
  kind = s.kind;
  size = s.size;
  number = s.number;
  attributes = s.attributes;
  read = time;
  written = s.written;
  changed = s.changed;
}

-- a path that has a sight was read at another time
abbrev pub with_reading : PathValue → FileTime → Option Sight → Sights → Sights
with_reading path time None sights = sights
with_reading path time (Some s) sights = finmap.insert sights path (read_at time s)

abbrev pub with_looked : Sights → Looked → Sights
with_looked sights looked =
    with_reading looked.path looked.read (finmap.get sights looked.path) sights

-- What a file holds isn't part of its sight.
abbrev pub with_note : Sights → Note → Sights
with_note sights (notes.Sight change) = with_change sights change
with_note sights (notes.Holds holds) = sights
with_note sights (notes.Looked looked) = with_looked sights looked

-- the notes made one after the other
abbrev pub after_notes : Sights → List Note → Sights
after_notes = fold with_note

abbrev pub with_item : Sights → Item → Sights
with_item sights (items.Note note) = with_note sights note
with_item sights (items.Record r) = sights

abbrev pub after_items : Sights → List Item → Sights
after_items = fold with_item
