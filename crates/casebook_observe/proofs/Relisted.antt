-- The last look of a spool of which the listing was written again.
use Rattle.std.proofs.Common.{◌≡◌, ◌∙◌, ℕ, ◌≤◌, true, List, [], ◌∷◌, ◌++◌, Ok, ap, append-nil}
use Rattle.std.proofs.Common.{arith, cond, drop, length, length-drop, map, refl, subst, sym, ⊎_elim}
use Rattle.std.specs.Prelude.{◌<◌, ◌^◌}
use Rattle.std.specs.FinMap as finmap
use Rattle.std.specs.List.{filter}
use Rattle.std.proofs.lemmas.Bool.{le-leb}
use Rattle.std.proofs.lemmas.List.{drop-drop, length-map}
use Rattle.std.proofs.lemmas.List.Elements.{All-map}
use Rattle.retro_path.specs.Order.{path_cmp}
use Rattle.casebook_spool.specs.After.{after_notes}
use Rattle.casebook_spool.specs.Lines.{lines_of}
use Rattle.casebook_spool.specs.Said.{LinesValue}
use Rattle.casebook_spool.specs.Valid.{IsNote}
use Rattle.casebook_spool.specs.Written.{listing_text, sight_note, sights_notes}
use Rattle.casebook_spool.proofs.ListingTrip.{listing_again}
use Rattle.casebook_watch.specs.Delta.{after_changes, delta, is_other, new_sight, no_sight}
use Rattle.casebook_watch.specs.Delta.{with_change}
use Rattle.casebook_watch.specs.Seen.{is_gone, passes_from}
use Rattle.casebook_watch.specs.Sights.{Sights}
use Rattle.casebook_watch.specs.declared.sight.Sight.{Sight}
use Rattle.casebook_watch.proofs.Leading.{delta_leads}
use Rattle.casebook_watch.proofs.Naming.{Entry}
use Rattle.casebook_observe.specs.Files.{SpoolFiles, with_listing}
use Rattle.casebook_observe.specs.Followed.{IsListedAgain}
use Rattle.casebook_observe.specs.Last.{last_look, look_after, look_of, look_of_first}
use Rattle.casebook_observe.specs.Last.{with_lines_of}
use Rattle.casebook_observe.specs.Writable.{AreSights}
use Rattle.casebook_observe.specs.declared.last_look.LastLook.{LastLook}
use Rattle.casebook_observe.proofs.Continued.{lines_value, nothing_more, whole_within}
use Rattle.casebook_observe.proofs.Looks.{ByFirst, ByListing, IsAfter, by_listing, goes_by}
use Rattle.casebook_observe.proofs.Looks.{was_read, with_lines}

-- ---- what is whole

-- the lines are as long as what is whole, and nothing is said after it
abbrev IsWholeAt : LastLook → List ℕ → Type 0
IsWholeAt last lines =
    (last.whole ≤ length lines) × (lines_of (drop last.whole lines) ≡ Ok (lines_value [] 0))

one_whole : (look : LastLook) (lines : List ℕ) (read : LinesValue) → look.whole ≤ length lines
    → lines_of (drop look.whole lines) ≡ Ok read → IsWholeAt (with_lines look read) lines
one_whole look lines read le e =
    let within = whole_within (drop look.whole lines) read e in
    let dropped = length-drop look.whole lines in (
      omega (arith, le, within, dropped),
      ap lines_of (sym (drop-drop read.whole look.whole lines))
          ∙ nothing_more (drop look.whole lines) read e,
    )

whole_after : (look : LastLook) (lines : List ℕ) (last : LastLook) → look.whole ≤ length lines
    → IsAfter look (drop look.whole lines) last → IsWholeAt last lines
whole_after look lines last le after =
    subst (λ l. IsWholeAt l lines) (sym after.2) (one_whole look lines after.0 le after.1)

whole_of : (look : LastLook) (lines : List ℕ) (last : LastLook) → look.whole ≤ length lines
    → look_after look (drop look.whole lines) ≡ Ok last → IsWholeAt last lines
whole_of look lines last le e =
    whole_after look lines last le
    (was_read look (drop look.whole lines) last (lines_of (drop look.whole lines)) refl e)

is_whole : (files : SpoolFiles) (last : LastLook) → last_look files ≡ Ok last
    → IsWholeAt last files.lines
is_whole files last e =
    ⊎_elim {A = ByListing files last} {B = ByFirst files last}
    (λ by. whole_of (look_of by.0) files.lines last by.2 by.3)
    (λ by. whole_of (look_of_first by.0) files.lines last (omega arith) by.2)
    (goes_by files last e)

-- ---- all sights as notes

after_entries : (sights : Sights) (es : List Entry)
    → after_notes sights (map sight_note es) ≡ after_changes sights (map new_sight es)
after_entries sights [] = refl
after_entries sights (e ∷ es) = after_entries (with_change sights (new_sight e)) es

all_other : (es : List Entry) → filter (passes_from is_other finmap.empty) es ≡ es
all_other [] = refl
all_other (e ∷ es) =
    let rest = filter (passes_from is_other finmap.empty) es in
    ap (λ found. cond (is_other found e.1) (e ∷ rest) rest) (finmap.get-empty path_cmp e.0)
    ∙ ap (λ others. e ∷ others) (all_other es)

none : {A : Type 0} (xs : List A) → length xs ≡ 0 → xs ≡ []
none [] e = refl
none (x ∷ xs) e = absurd (omega (arith, e))

no_entries : finmap.entries {X = Sight} (finmap.empty {R = path_cmp}) ≡ []
no_entries =
    none (finmap.entries {X = Sight} (finmap.empty {R = path_cmp}))
    (sym (finmap.len-entries {X = Sight} (finmap.empty {R = path_cmp}))
    ∙ finmap.len-empty path_cmp Sight)

all_new : (sights : Sights) → delta finmap.empty sights ≡ map new_sight (finmap.entries sights)
all_new sights =
    let newer = map new_sight
    (filter (passes_from is_other finmap.empty) (finmap.entries sights)) in
    ap (λ gone. newer ++ map no_sight (filter (is_gone sights) gone)) no_entries
    ∙ append-nil newer ∙ ap (map new_sight) (all_other (finmap.entries sights))

sights_lead : (sights : Sights) → after_notes finmap.empty (sights_notes sights) ≡ sights
sights_lead sights =
    after_entries finmap.empty (finmap.entries sights)
    ∙ ap (after_changes finmap.empty) (sym (all_new sights)) ∙ delta_leads finmap.empty sights

-- ---- the law

pub is_relisted : (last : LastLook) (files : SpoolFiles) → last_look files ≡ Ok last
    → AreSights last.sights → last.whole < 2 ^ 64
    → length (finmap.entries last.sights) < 2 ^ 64 → IsListedAgain last files
is_relisted last files e sights fits few =
    let said = sights_notes last.sights in
    let long = length-map (finmap.entries last.sights) sight_note in
    let listing = listing_again last.whole said fits (omega (arith, few, long))
    (All-map IsNote sight_note (finmap.entries last.sights) sights) in
    let whole = is_whole files last e in
    by_listing (with_listing (listing_text last.whole said) files)
    (record { at = last.whole; said = said }) listing
    (le-leb last.whole (length files.lines) whole.0)
    ∙ ap (with_lines_of (look_of (record { at = last.whole; said = said }))) whole.1
    ∙ ap (λ n. Ok (record {
      sights = after_notes finmap.empty said;
      start = last.whole;
      whole = n;
      is_listed = true;
    })) (omega arith)
    ∙ ap (λ s. Ok (record {
      sights = s;
      start = last.whole;
      whole = last.whole;
      is_listed = true;
    })) (sights_lead last.sights)
