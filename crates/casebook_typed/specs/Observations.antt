-- Observations: what the rows of the file `lines` say, a record each.
use Rattle.std.specs.Prelude.{List, [], ◌∷◌}
use Rattle.casebook_record.specs.declared.record.Record.{Record}
use Rattle.casebook_spool.specs.declared.item.Item.{Item}
use Rattle.casebook_spool.specs.declared.item.Item.TheVariants as items
use Rattle.casebook_spool.specs.declared.note.Note.{Note}

-- the notes that items are
abbrev pub notes_in : List Item → List Note
notes_in [] = []
notes_in (items.Note note ∷ rest) = note ∷ notes_in rest
notes_in (items.Record r ∷ rest) = notes_in rest

-- notes, and the record to which they belong
pub record Observed : Type 0 where
  pub noted : List Note
  pub said : Record

-- a note belongs to the first of the observations that follow, if there is one
abbrev pub with_note : Note → List Observed → List Observed
with_note note [] = []
with_note note (o ∷ rest) = record { noted = note ∷ o.noted; said = o.said } ∷ rest

-- each record with the notes before it, since the record before
abbrev pub observations : List Item → List Observed
observations [] = []
observations (items.Note note ∷ rest) = with_note note (observations rest)
observations (items.Record r ∷ rest) = record { noted = []; said = r } ∷ observations rest
