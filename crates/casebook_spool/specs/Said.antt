-- What the files of a spool say.
use Rattle.std.specs.Prelude.{ℕ, List}
use Rattle.casebook_spool.specs.declared.item.Item.{Item}
use Rattle.casebook_spool.specs.declared.note.Note.{Note}

-- the items of the file `lines` up to the last record, and how many bytes their rows have
pub record LinesValue : Type 0 where
  pub said : List Item
  pub whole : ℕ

-- the notes of a listing, and to which byte of the file `lines` it goes
pub record ListingValue : Type 0 where
  pub at : ℕ
  pub said : List Note
