-- The last look of a spool.
use Rattle.std.specs.Prelude.{ℕ, ◌+◌, true, false, List, drop, length, nat_le, Option, Some, None, Result, Ok, Err}
use Rattle.std.specs.Prelude.{if◌then◌else◌}
use Rattle.std.specs.FinMap as finmap
use Rattle.casebook_spool.specs.After.{after_items, after_notes}
use Rattle.casebook_spool.specs.Lines.{lines_of}
use Rattle.casebook_spool.specs.Listings.{listing_of}
use Rattle.casebook_spool.specs.Said.{LinesValue, ListingValue}
use Rattle.casebook_observe.specs.Files.{SpoolFiles}
use Rattle.casebook_observe.specs.declared.last_look.LastLook.{LastLook}
use Rattle.casebook_observe.specs.declared.observe_error.ObserveError.{ObserveError}
use Rattle.casebook_observe.specs.declared.observe_error.ObserveError.TheVariants as errors

-- what the listing says that the file `first` is
abbrev pub look_of_first : ListingValue → LastLook
look_of_first listing =
    record { sights = after_notes finmap.empty listing.said; start = 0; whole = 0; is_listed = false }

-- what the listing says that the file `listing` is
abbrev pub look_of : ListingValue → LastLook
look_of listing = record {
  sights = after_notes finmap.empty listing.said;
  start = listing.at;
  whole = listing.at;
  is_listed = true;
}

-- what the file `first` says
abbrev pub first_of : Option ListingValue → Result LastLook ObserveError
first_of None = Err errors.First
first_of (Some listing) = Ok (look_of_first listing)

abbrev pub first_look : SpoolFiles → Result LastLook ObserveError
first_look files = first_of (listing_of files.first)

-- a look after what is read of the file `lines`
abbrev pub with_lines_of : LastLook → Result LinesValue ℕ → Result LastLook ObserveError
with_lines_of look (Err n) = Err (errors.Lines look.whole n)
with_lines_of look (Ok lines) = Ok (record {
  sights = after_items look.sights lines.said;
  start = look.start;
  whole = look.whole + lines.whole;
  is_listed = look.is_listed;
})

-- a look after what the file `lines` says since then, of which this is the text
abbrev pub look_after : LastLook → List ℕ → Result LastLook ObserveError
look_after look text = with_lines_of look (lines_of text)

-- a look after all that the file `lines` says since then
abbrev pub then_after : SpoolFiles → Result LastLook ObserveError → Result LastLook ObserveError
then_after files (Ok look) = look_after look (drop look.whole files.lines)
then_after files (Err error) = Err error

-- The look of a listing with what the file `lines` says since then, or nothing if there is no
-- listing, or the file `lines` isn't so long.
abbrev pub listed_after : SpoolFiles → Option ListingValue → Option (Result LastLook ObserveError)
listed_after files None = None
listed_after files (Some listing) =
    if nat_le listing.at (length files.lines)
    then Some (look_after (look_of listing) (drop listing.at files.lines)) else None

abbrev pub listed_look : SpoolFiles → Option (Result LastLook ObserveError)
listed_look files = listed_after files (listing_of files.listing)

-- by the listing, or else by the first look
abbrev pub or_first : SpoolFiles → Option (Result LastLook ObserveError) → Result LastLook ObserveError
or_first files (Some look) = look
or_first files None = then_after files (first_look files)

-- The last look: by the file `listing` if it can be read, and else by the file `first`, and what
-- the file `lines` says since then.
unfoldable pub last_look : SpoolFiles → Result LastLook ObserveError
last_look files = or_first files (listed_look files)
