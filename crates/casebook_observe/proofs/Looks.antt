-- The last look of a spool after an observation, and of a spool that was started.
use Rattle.std.proofs.Common.{◌≡◌, ◌∙◌, ℕ, ◌+◌, ◌≤◌, Bool, true, false, List, [], ◌∷◌, ◌++◌, Ok}
use Rattle.std.proofs.Common.{Err, Option, Some, None, Result, All, ap, arith, drop, inl, inr}
use Rattle.std.proofs.Common.{length, length-append, length-drop, length-take-le, refl, subst, sym}
use Rattle.std.proofs.Common.{take, ⊎_elim}
use Rattle.std.specs.Prelude.{◌⊎◌, ◌<◌, ◌^◌, if◌then◌else◌, nat_le}
use Rattle.std.specs.FinMap as finmap
use Rattle.std.proofs.lemmas.Bool.{le-leb, leb-true}
use Rattle.std.proofs.lemmas.List.{drop-append-le, drop-take}
use Rattle.std.proofs.lemmas.List.Sums.{fold-append}
use Rattle.casebook_record.specs.Records.{record_in}
use Rattle.casebook_record.specs.declared.record.Record.{Record}
use Rattle.casebook_spool.specs.After.{after_items, with_item}
use Rattle.casebook_spool.specs.Lines.{items_of, lines_of}
use Rattle.casebook_spool.specs.Listings.{listing_of}
use Rattle.casebook_spool.specs.ReadBack as back
use Rattle.casebook_spool.specs.ReadBack.{IsObservation, Observation}
use Rattle.casebook_spool.specs.Said.{LinesValue, ListingValue}
use Rattle.casebook_spool.specs.Valid.{AreBytes}
use Rattle.casebook_spool.proofs.ListingTrip.{listing_again}
use Rattle.casebook_watch.specs.declared.sight_change.SightChange.{SightChange}
use Rattle.casebook_watch.specs.declared.sight.Sight.{Sight}
use Rattle.retro_path.specs.Order.{path_cmp}
use Rattle.casebook_observe.specs.Files.{SpoolFiles}
use Rattle.casebook_observe.specs.Followed.{IsBegun, IsFollowed, IsNew, IsRecordWith}
use Rattle.casebook_observe.specs.Last.{first_of, last_look, listed_after, look_after, look_of}
use Rattle.casebook_observe.specs.Last.{look_of_first, or_first, then_after, with_lines_of}
use Rattle.casebook_observe.specs.Notes.{due_since, notes_between, with_contents, with_found}
use Rattle.casebook_observe.specs.Observed.{observed, settled, started}
use Rattle.casebook_observe.specs.Worlds.{World}
use Rattle.casebook_observe.specs.Writable.{ArePaths, IsWritable}
use Rattle.casebook_observe.specs.declared.found.Found.{Found}
use Rattle.casebook_observe.specs.declared.found.Found.TheVariants as founds
use Rattle.casebook_observe.specs.declared.last_look.LastLook.{LastLook}
use Rattle.casebook_observe.proofs.Continued.{lines_on, lines_value, whole_within}
use Rattle.casebook_observe.proofs.Noted.{are_notes}
use Rattle.casebook_observe.proofs.Sent.{fields_are_bytes, record_said}
use Rattle.casebook_observe.proofs.Sighted.{items_lead, notes_lead}

-- ---- by which file the last look goes

pub by_listing : (now : SpoolFiles) (listing : ListingValue) → listing_of now.listing ≡ Some listing
    → nat_le listing.at (length now.lines) ≡ true
    → last_look now ≡ look_after (look_of listing) (drop listing.at now.lines)
unfolding last_look
by_listing now listing e le = rw (e, le) refl

by_first : (now : SpoolFiles) (first : ListingValue) → listing_of now.listing ≡ None
    → listing_of now.first ≡ Some first
    → last_look now ≡ look_after (look_of_first first) (drop 0 now.lines)
unfolding last_look
by_first now first e h = rw (e, h) refl

-- by a listing
abbrev pub ByListing : SpoolFiles → LastLook → Type 0
ByListing files last =
    (listing : ListingValue) × (listing_of files.listing ≡ Some listing)
    × (listing.at ≤ length files.lines)
    × (look_after (look_of listing) (drop listing.at files.lines) ≡ Ok last)

-- by the first look
abbrev pub ByFirst : SpoolFiles → LastLook → Type 0
ByFirst files last =
    (first : ListingValue) × (listing_of files.first ≡ Some first)
    × (look_after (look_of_first first) (drop 0 files.lines) ≡ Ok last)

first_case : (files : SpoolFiles) (last : LastLook) (first : Option ListingValue)
    → listing_of files.first ≡ first → then_after files (first_of first) ≡ Ok last
    → ByFirst files last
first_case files last None is e = absurd (cc)
first_case files last (Some first) is e = (first, is, e)

listing_case : (files : SpoolFiles) (last : LastLook) (listing : ListingValue) (b : Bool)
    → listing_of files.listing ≡ Some listing → nat_le listing.at (length files.lines) ≡ b
    → or_first files
    (if b then Some (look_after (look_of listing) (drop listing.at files.lines)) else None)
    ≡ Ok last
    → ByListing files last ⊎ ByFirst files last
listing_case files last listing true is le e =
    inl (listing, is, leb-true listing.at (length files.lines) le, e)
listing_case files last listing false is le e =
    inr (first_case files last (listing_of files.first) refl e)

either_case : (files : SpoolFiles) (last : LastLook) (listing : Option ListingValue)
    → listing_of files.listing ≡ listing → or_first files (listed_after files listing) ≡ Ok last
    → ByListing files last ⊎ ByFirst files last
either_case files last None is e = inr (first_case files last (listing_of files.first) refl e)
either_case files last (Some listing) is e =
    listing_case files last listing (nat_le listing.at (length files.lines)) is refl e

pub goes_by : (files : SpoolFiles) (last : LastLook) → last_look files ≡ Ok last
    → ByListing files last ⊎ ByFirst files last
unfolding last_look
goes_by files last e = either_case files last (listing_of files.listing) refl e

-- ---- a look after lines and an observation

abbrev pub with_lines : LastLook → LinesValue → LastLook
with_lines look lines = record {
  sights = after_items look.sights lines.said;
  start = look.start;
  whole = look.whole + lines.whole;
  is_listed = look.is_listed;
}

abbrev pub IsAfter : LastLook → List ℕ → LastLook → Type 0
IsAfter look text last =
    (lines : LinesValue) × (lines_of text ≡ Ok lines) × (last ≡ with_lines look lines)

pub was_read : (look : LastLook) (text : List ℕ) (last : LastLook) (read : Result LinesValue ℕ)
    → lines_of text ≡ read → with_lines_of look read ≡ Ok last → IsAfter look text last
was_read look text last (Ok lines) is e = (lines, is, cc)
was_read look text last (Err n) is e = absurd (cc)

abbrev next_look : LastLook → Observation → ℕ → LastLook
next_look last o whole = record {
  sights = after_items last.sights (back.items_of o);
  start = last.start;
  whole = whole;
  is_listed = last.is_listed;
}

-- what is whole, and an observation
abbrev lines_next : LastLook → Observation → List ℕ → List ℕ
lines_next last o lines = take last.whole lines ++ back.text_of o

abbrev IsNext : LastLook → LastLook → Observation → List ℕ → Type 0
IsNext look last o lines =
    (look.whole ≤ length (lines_next last o lines))
    × (look_after look (drop look.whole (lines_next last o lines))
    ≡ Ok (next_look last o (length (lines_next last o lines))))
    × (last.is_listed ≡ look.is_listed)

next_read : (look : LastLook) (read : LinesValue) (o : Observation) (text : List ℕ) (n : ℕ)
    → lines_of text ≡ Ok (lines_value (read.said ++ back.items_of o) n)
    → look_after look text ≡ Ok (next_look (with_lines look read) o (look.whole + n))
next_read look read o text n e =
    ap (with_lines_of look) e
    ∙ ap (λ s. Ok (record {
      sights = s;
      start = look.start;
      whole = look.whole + n;
      is_listed = look.is_listed;
    })) (fold-append with_item look.sights read.said (back.items_of o))

one_next : (look : LastLook) (lines : List ℕ) (read : LinesValue) (o : Observation)
    → look.whole ≤ length lines → lines_of (drop look.whole lines) ≡ Ok read → IsObservation o
    → IsNext look (with_lines look read) o lines
one_next look lines read o le e k =
    let at = look.whole in
    let text = back.text_of o in
    let taken = take (at + read.whole) lines in
    let within = whole_within (drop at lines) read e in
    let dropped = length-drop at lines in
    let fits : at + read.whole ≤ length lines = omega (arith, le, within, dropped) in
    let kept = length-take-le (at + read.whole) lines fits in
    let long = length-append taken text in
    let all : drop at (taken ++ text) ≡ take read.whole (drop at lines) ++ text =
    drop-append-le at taken text (omega (arith, kept))
    ∙ ap (λ part. part ++ text) (drop-take at read.whole lines) in
    let whole : at + (read.whole + length text) ≡ length (taken ++ text) =
    omega (arith, kept, long) in (
      omega (arith, kept, long),
      ap (look_after look) all
          ∙ next_read look read o (take read.whole (drop at lines) ++ text)
          (read.whole + length text) (lines_on (drop at lines) read o e k)
          ∙ ap (λ n. Ok (next_look (with_lines look read) o n)) whole,
      refl,
    )

next_after : (look : LastLook) (lines : List ℕ) (last : LastLook) (o : Observation)
    → look.whole ≤ length lines → IsAfter look (drop look.whole lines) last → IsObservation o
    → IsNext look last o lines
next_after look lines last o le after k =
    subst (λ l. IsNext look l o lines) (sym after.2) (one_next look lines after.0 o le after.1 k)

is_next : (look : LastLook) (lines : List ℕ) (last : LastLook) (o : Observation)
    → look.whole ≤ length lines → look_after look (drop look.whole lines) ≡ Ok last
    → IsObservation o → IsNext look last o lines
is_next look lines last o le e k =
    next_after look lines last o le
    (was_read look (drop look.whole lines) last (lines_of (drop look.whole lines)) refl e) k

-- ---- the last look after an observation

no_listing : listing_of [] ≡ None
unfolding listing_of
no_listing = refl

-- a spool with an observation after what was whole
record IsLater (last : LastLook) (o : Observation) (files now : SpoolFiles) : Type 0 where
  pub first : now.first ≡ files.first
  pub listing : now.listing ≡ (if last.is_listed then files.listing else [])
  pub lines : now.lines ≡ lines_next last o files.lines

later_look : (look last : LastLook) (o : Observation) (files now : SpoolFiles)
    → now.lines ≡ lines_next last o files.lines → IsNext look last o files.lines
    → look_after look (drop look.whole now.lines) ≡ Ok (next_look last o (length now.lines))
later_look look last o files now e next =
    ap (λ lines. look_after look (drop look.whole lines)) e ∙ next.1
    ∙ ap (λ lines. Ok (next_look last o (length lines))) (sym e)

after_listing : (last : LastLook) (o : Observation) (files now : SpoolFiles) → IsObservation o
    → IsLater last o files now → ByListing files last
    → last_look now ≡ Ok (next_look last o (length now.lines))
after_listing last o files now k later by =
    let look = look_of by.0 in
    let next = is_next look files.lines last o by.2 by.3 k in
    let same : now.listing ≡ files.listing =
    later.listing ∙ ap (λ b. if b then files.listing else []) next.2 in
    let long = ap length later.lines in
    by_listing now by.0 (ap listing_of same ∙ by.1)
    (le-leb by.0.at (length now.lines) (omega (arith, long, next.0)))
    ∙ later_look look last o files now later.lines next

after_first : (last : LastLook) (o : Observation) (files now : SpoolFiles) → IsObservation o
    → IsLater last o files now → ByFirst files last
    → last_look now ≡ Ok (next_look last o (length now.lines))
after_first last o files now k later by =
    let look = look_of_first by.0 in
    let next = is_next look files.lines last o (omega arith) by.2 k in
    let none : now.listing ≡ [] =
    later.listing ∙ ap (λ b. if b then files.listing else []) next.2 in
    by_first now by.0 (ap listing_of none ∙ no_listing) (ap listing_of later.first ∙ by.1)
    ∙ later_look look last o files now later.lines next

later_is_next : (last : LastLook) (o : Observation) (files now : SpoolFiles) → IsObservation o
    → last_look files ≡ Ok last → IsLater last o files now
    → last_look now ≡ Ok (next_look last o (length now.lines))
later_is_next last o files now k e later =
    ⊎_elim (λ by. after_listing last o files now k later by)
    (λ by. after_first last o files now k later by) (goes_by files last e)

-- ---- contents that are kept

abbrev IsSame : SpoolFiles → SpoolFiles → Type 0
IsSame files now =
    (now.first ≡ files.first) × (now.listing ≡ files.listing) × (now.lines ≡ files.lines)

same_found : (files : SpoolFiles) (found : Found) → IsSame files (with_found files found)
same_found files (founds.Bytes bytes) = (refl, refl, refl)
same_found files (founds.Target target) = (refl, refl, refl)
same_found files (founds.Unkept why) = (refl, refl, refl)

same_contents : (world : World) (changes : List SightChange) (files : SpoolFiles)
    → IsSame files (with_contents world changes files)
same_contents world [] files = (refl, refl, refl)
same_contents world (change ∷ changes) files =
    let one = same_found files (world.held change.path) in
    let rest = same_contents world changes (with_found files (world.held change.path)) in
    (rest.0 ∙ one.0, rest.1 ∙ one.1, rest.2 ∙ one.2)

-- ---- the laws

follows : (last : LastLook) (world : World) (fields : List (List ℕ)) (said : Record)
    (files : SpoolFiles) → last_look files ≡ Ok last → ArePaths last.sights → IsWritable world
    → All AreBytes fields → record_in fields ≡ Ok said → IsFollowed last world fields files
follows last world fields said files e paths writable bytes is =
    let o : Observation = record {
      noted = notes_between last.sights world;
      fields = fields;
      said = said;
    } in
    let same = same_contents world (due_since last.sights world) (settled last files) in
    later_is_next last o files (observed last world fields files)
    (are_notes last.sights world paths writable, bytes, is) e (record {
      first = same.0;
      listing = same.1;
      lines = ap (λ lines. take last.whole lines ++ back.text_of o) same.2;
    })
    ∙ ap (λ s. Ok (record {
      sights = s;
      start = last.start;
      whole = length (observed last world fields files).lines;
      is_listed = last.is_listed;
    })) (items_lead last.sights o ∙ notes_lead last.sights world)

pub is_followed : (last : LastLook) (world : World) (sent : List ℕ) (fields : List (List ℕ))
    (files : SpoolFiles) → last_look files ≡ Ok last → ArePaths last.sights → IsWritable world
    → IsRecordWith fields sent → IsFollowed last world fields files
is_followed last world sent fields files e paths writable h =
    let said = record_said sent fields h in
    follows last world fields said.0 files e paths writable (fields_are_bytes sent fields h) said.1

no_paths : ArePaths finmap.empty
no_paths k d lt =
    let none = finmap.len-entries {X = Sight} (finmap.empty {R = path_cmp}) in
    let empty = finmap.len-empty path_cmp Sight in
    absurd (omega (arith, lt, none, empty))

no_lines : lines_of [] ≡ Ok (lines_value [] 0)
unfolding lines_of items_of
no_lines = refl

pub is_begun : (world : World) (files : SpoolFiles) → IsNew files → IsWritable world
    → length (notes_between finmap.empty world) < 2 ^ 64
    → IsBegun world files
is_begun world files new writable few =
    let same = same_contents world (due_since finmap.empty world) files in
    let said = notes_between finmap.empty world in
    let listing = listing_again 0 said (omega arith) few
    (are_notes finmap.empty world no_paths writable) in
    by_first (started world files) (record { at = 0; said = said })
    (ap listing_of (same.1 ∙ new.0) ∙ no_listing) listing
    ∙ ap (λ lines. look_after (look_of_first (record { at = 0; said = said })) (drop 0 lines))
    (same.2 ∙ new.1)
    ∙ ap (with_lines_of (look_of_first (record { at = 0; said = said }))) no_lines
    ∙ ap (λ s. Ok (record { sights = s; start = 0; whole = 0; is_listed = false }))
    (notes_lead finmap.empty world)
