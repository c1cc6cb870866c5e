-- What an observation does to a spool.
use Rattle.std.specs.Prelude.{◌≡◌, ◌⊎◌, ◌++◌, ℕ, List, [], Option, Some, None, Result, Ok, Err, if◌then◌else◌, take}
use Rattle.std.specs.FinMap as finmap
use Rattle.casebook_record.specs.declared.record_error.RecordError.{RecordError}
use Rattle.casebook_spool.specs.Written.{listing_text, observation_text, sights_notes}
use Rattle.casebook_observe.specs.Files.{SpoolFiles, appended, with_first, with_listing}
use Rattle.casebook_observe.specs.Last.{last_look}
use Rattle.casebook_observe.specs.Notes.{due_since, notes_between, with_contents}
use Rattle.casebook_observe.specs.Worlds.{World}
use Rattle.casebook_observe.specs.declared.last_look.LastLook.{LastLook}
use Rattle.casebook_observe.specs.declared.observe_error.ObserveError.{ObserveError}

-- the row of a record and the rows before it
abbrev pub text_since : LastLook → World → List (List ℕ) → List ℕ
text_since last world fields = observation_text (notes_between last.sights world) fields

-- A listing that isn't used is emptied first. It may be ahead of the file `lines`, and the text to
-- come would make that longer.
abbrev pub settled : LastLook → SpoolFiles → SpoolFiles
settled last files = with_listing (if last.is_listed then files.listing else []) files

-- the spool after a record: the contents are kept, and the record follows what was whole
abbrev pub observed : LastLook → World → List (List ℕ) → SpoolFiles → SpoolFiles
observed last world fields files =
    appended last.whole (text_since last world fields)
    (with_contents world (due_since last.sights world) (settled last files))

-- The spool after a record that was taken: its last look could be read, and the record has fields.
abbrev pub IsObserved : Result LastLook ObserveError → World → Result (List (List ℕ)) RecordError
    → SpoolFiles → Option SpoolFiles → Type 0
IsObserved (Ok last) world (Ok fields) files now = now ≡ Some (observed last world fields files)
IsObserved _ world _ files now = ⊥

-- The spool after its listing was written again.
abbrev pub IsListed : Result LastLook ObserveError → SpoolFiles → Option SpoolFiles → Type 0
IsListed (Ok last) files now =
    now ≡ Some (with_listing (listing_text last.whole (sights_notes last.sights)) files)
IsListed (Err error) files now = ⊥

-- The spool after a record was taken. Then its listing may have been written again.
pub record IsTaken (look : Result LastLook ObserveError) (world : World)
    (fields : Result (List (List ℕ)) RecordError) (files : SpoolFiles) (now : Option SpoolFiles)
    : Type 0 where
  pub taken : SpoolFiles
  pub is_taken : IsObserved look world fields files (Some taken)
  pub listing : (now ≡ Some taken) ⊎ IsListed (last_look taken) taken now

-- a new spool: the contents are kept, and the first look is a listing
abbrev pub started : World → SpoolFiles → SpoolFiles
started world files =
    with_first (listing_text 0 (notes_between finmap.empty world))
    (with_contents world (due_since finmap.empty world) files)

-- Nothing that was whole is lost: the first look and the contents are still there, the listing is or
-- was emptied, and the lines begin with what was whole.
abbrev pub KeepsWhole : LastLook → SpoolFiles → SpoolFiles → Type 0
KeepsWhole last files now =
    (now.first ≡ files.first) × ((now.listing ≡ files.listing) ⊎ (now.listing ≡ []))
    × ((rest : List ℕ) × (now.lines ≡ take last.whole files.lines ++ rest))
    × ((d bytes : List ℕ) → files.kept d ≡ Some bytes → now.kept d ≡ Some bytes)

-- the same of a spool that was only read in part, and is unchanged
abbrev pub LosesNothing : Result LastLook ObserveError → SpoolFiles → Option SpoolFiles → Type 0
LosesNothing (Ok last) files (Some now) = KeepsWhole last files now
LosesNothing (Err error) files now = now ≡ Some files
LosesNothing (Ok last) files None = ⊥

-- The first look and the contents are still there, and the lines begin with what was whole.
abbrev pub KeepsRecords : LastLook → SpoolFiles → SpoolFiles → Type 0
KeepsRecords last files now =
    (now.first ≡ files.first)
    × ((rest : List ℕ) × (now.lines ≡ take last.whole files.lines ++ rest))
    × ((d bytes : List ℕ) → files.kept d ≡ Some bytes → now.kept d ≡ Some bytes)

-- the same of a spool that was only read in part, and is unchanged
abbrev pub LosesNoRecord : Result LastLook ObserveError → SpoolFiles → Option SpoolFiles → Type 0
LosesNoRecord (Ok last) files (Some now) = KeepsRecords last files now
LosesNoRecord (Err error) files now = now ≡ Some files
LosesNoRecord (Ok last) files None = ⊥
