-- What a case says, by its parts: the bytes of files, the texts of the files `first` and `lines` of a
-- spool, and the rows of the folders in which it wasn't always seen what lines only read.
use Rattle.std.specs.Prelude.{ℕ, ◌+◌, Bool, false, List, fold, position}
use Rattle.std.specs.Prelude.{Option, Some, None, Result, Ok, Err, is_none, ok_or, ⊤}
use Rattle.std.specs.FinMap as finmap
use Rattle.sha2.specs.Sha256.{sha256}
use Rattle.casebook_spool.specs.Held.{Held}
use Rattle.casebook_spool.specs.Lines.{lines_of}
use Rattle.casebook_spool.specs.Listings.{listing_of}
use Rattle.casebook_spool.specs.Said.{LinesValue, ListingValue}
use Rattle.casebook_spool.specs.declared.content.Content.{Content}
use Rattle.casebook_spool.specs.declared.content.Content.TheVariants as contents
use Rattle.casebook_spool.specs.declared.item.Item.{Item}
use Rattle.casebook_spool.specs.declared.item.Item.TheVariants as items
use Rattle.casebook_spool.specs.declared.note.Note.{Note}
use Rattle.casebook_spool.specs.declared.note.Note.TheVariants as notes
use Rattle.casebook_case.specs.declared.case.Case.{Case}
use Rattle.casebook_case.specs.declared.case_fault.CaseFault.{CaseFault}
use Rattle.casebook_case.specs.declared.case_fault.CaseFault.TheVariants as faults

-- ---- bytes

abbrev pub with_content : Held → List ℕ → Held
with_content held bytes = finmap.insert held (sha256 bytes) bytes

-- bytes, each under their own digest
abbrev pub held_by : List (List ℕ) → Held
held_by contents = fold with_content finmap.empty contents

-- ---- bytes that are missing

abbrev pub lacks_content : Held → Content → Bool
lacks_content held (contents.Kept digest) = is_none (finmap.get held digest.bytes)
lacks_content held (contents.Target target) = false
lacks_content held (contents.Unkept why) = false

-- whether a note names bytes that aren't held
abbrev pub lacks : Held → Note → Bool
lacks held (notes.Sight change) = false
lacks held (notes.Holds holds) = lacks_content held holds.content
lacks held (notes.Looked looked) = false

abbrev pub item_lacks : Held → Item → Bool
item_lacks held (items.Note note) = lacks held note
item_lacks held (items.Record r) = false

-- a fault, if something has a place
abbrev pub unless_at : (ℕ → CaseFault) → Option ℕ → Result ⊤ CaseFault
unless_at fault None = Ok tt
unless_at fault (Some place) = Err (fault place)

-- The row of the first look whose bytes are missing: its notes begin in row 2.
abbrev pub missing_first : ℕ → CaseFault
missing_first place = faults.MissingFirst (place + 2)

-- the row of the observations whose bytes are missing
abbrev pub missing_line : ℕ → CaseFault
missing_line place = faults.MissingLine (place + 1)

-- ---- cases

infixl 10 ◌>>=◌
abbrev pub ◌>>=◌ : {A B : Type 0} → Result A CaseFault → (A → Result B CaseFault) → Result B CaseFault
(Ok x) >>= f = f x
(Err fault) >>= f = Err fault

abbrev pub lines_or : Result LinesValue ℕ → Result LinesValue CaseFault
lines_or (Ok lines) = Ok lines
lines_or (Err row) = Err (faults.BadLine row)

-- whether all bytes are there that notes name, or the first row whose bytes are missing
abbrev pub all_held : Held → ListingValue → LinesValue → Result ⊤ CaseFault
all_held held first lines = do
  looked ← unless_at missing_first (position (lacks held) first.said)
  unless_at missing_line (position (item_lacks held) lines.said)

-- a case whose bytes are all there that its notes name
abbrev pub case_with : Held → ListingValue → LinesValue → List ℕ → Result Case CaseFault
case_with held first lines unseen = do
  whole ← all_held held first lines
  Ok (record { first = first; lines = lines; contents = held; unseen = unseen })

-- What the parts of a case say, or the first fault: that of the first look, that of the
-- observations, and then bytes that are missing in the one and in the other.
unfoldable pub case_of : List (List ℕ) → List ℕ → List ℕ → List ℕ → Result Case CaseFault
case_of contents first lines unseen = do
  look ← ok_or (listing_of first) faults.BadFirst
  observations ← lines_or (lines_of lines)
  case_with (held_by contents) look observations unseen
