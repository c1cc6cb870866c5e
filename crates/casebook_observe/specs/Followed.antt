-- What the last look of a spool is after an observation.
use Rattle.std.specs.Prelude.{◌≡◌, ℕ, IsOk, List, [], Ok, false, fold, length, true}
use Rattle.casebook_record.specs.Fields.{fields_of}
use Rattle.casebook_record.specs.Records.{record_of}
use Rattle.casebook_spool.specs.After.{with_looked}
use Rattle.casebook_spool.specs.Valid.{AreBytes}
use Rattle.casebook_spool.specs.Written.{listing_text, sights_notes}
use Rattle.casebook_watch.specs.Sights.{Sights}
use Rattle.casebook_observe.specs.Files.{SpoolFiles, with_listing}
use Rattle.casebook_observe.specs.Last.{last_look}
use Rattle.casebook_observe.specs.Observed.{observed, started}
use Rattle.casebook_observe.specs.Worlds.{World}
use Rattle.casebook_observe.specs.declared.last_look.LastLook.{LastLook}

-- the sights that a look finds, with the times of reading that it leaves itself
abbrev pub sights_left : World → Sights
sights_left world = fold with_looked world.sights world.looked

-- the look that was taken, after which all of the file `lines` is whole
abbrev pub look_taken : LastLook → World → SpoolFiles → LastLook
look_taken last world files = record {
  sights = sights_left world;
  start = last.start;
  whole = length files.lines;
  is_listed = last.is_listed;
}

-- bytes that are a record with these fields
abbrev pub IsRecordWith : List (List ℕ) → List ℕ → Type 0
IsRecordWith fields sent =
    AreBytes sent × (fields_of sent ≡ Ok fields) × IsOk (record_of sent)

-- The last look after an observation is the look that was taken.
abbrev pub IsFollowed : LastLook → World → List (List ℕ) → SpoolFiles → Type 0
IsFollowed last world fields files =
    last_look (observed last world fields files)
    ≡ Ok (look_taken last world (observed last world fields files))

-- the first look of a spool
abbrev pub look_begun : World → LastLook
look_begun world =
    record { sights = sights_left world; start = 0; whole = 0; is_listed = false }

-- The last look of a new spool is the look that was taken.
abbrev pub IsBegun : World → SpoolFiles → Type 0
IsBegun world files = last_look (started world files) ≡ Ok (look_begun world)

-- a spool without a listing and without lines
abbrev pub IsNew : SpoolFiles → Type 0
IsNew files = (files.listing ≡ []) × (files.lines ≡ [])

-- the last look as one of a listing that was written again
abbrev pub look_listed : LastLook → LastLook
look_listed last = record {
  sights = last.sights;
  start = last.whole;
  whole = last.whole;
  is_listed = true;
}

-- The last look after a listing was written again is the one before, and that of the listing.
abbrev pub IsListedAgain : LastLook → SpoolFiles → Type 0
IsListedAgain last files =
    last_look (with_listing (listing_text last.whole (sights_notes last.sights)) files)
    ≡ Ok (look_listed last)

-- The last look can be read. Its sights are those that a look left, and all of the file `lines` is
-- whole.
abbrev pub IsLookOf : World → SpoolFiles → Type 0
IsLookOf world files =
    (look : LastLook) × (last_look files ≡ Ok look) × (look.sights ≡ sights_left world)
    × (look.whole ≡ length files.lines)
