-- The last look after a record was taken.
use Rattle.std.proofs.Common.{◌≡◌, ◌∙◌, ℕ, List, Ok, Err, Some, Result, ap, length, refl, subst}
use Rattle.std.proofs.Common.{sym, ⊎_elim}
use Rattle.std.specs.Prelude.{◌⊎◌, ◌<◌, ◌^◌, IfOk, IsOk}
use Rattle.std.specs.FinMap as finmap
use Rattle.casebook_record.specs.Fields.{fields_of}
use Rattle.casebook_record.specs.Records.{record_of}
use Rattle.casebook_record.specs.declared.record_error.RecordError.{RecordError}
use Rattle.casebook_spool.specs.Valid.{AreBytes}
use Rattle.casebook_spool.specs.Written.{listing_text, sights_notes}
use Rattle.casebook_observe.specs.Files.{SpoolFiles, with_listing}
use Rattle.casebook_observe.specs.Followed.{IsLookOf, IsRecordWith, look_listed, look_taken}
use Rattle.casebook_observe.specs.Followed.{sights_left}
use Rattle.casebook_observe.specs.Last.{last_look}
use Rattle.casebook_observe.specs.Observed.{IsListed, IsObserved, IsTaken, observed}
use Rattle.casebook_observe.specs.Worlds.{World}
use Rattle.casebook_observe.specs.Writable.{ArePaths, IsWritable}
use Rattle.casebook_observe.specs.declared.last_look.LastLook.{LastLook}
use Rattle.casebook_observe.specs.declared.observe_error.ObserveError.{ObserveError}
use Rattle.casebook_observe.proofs.Looks.{is_followed}
use Rattle.casebook_observe.proofs.Relisted.{is_relisted}
use Rattle.casebook_observe.proofs.SightsLeft.{are_paths, left_are_sights}

of_some : (a b : SpoolFiles) → Some a ≡ Some b → a ≡ b
of_some a b e = cc

-- a spool that has a record, and whose listing wasn't written again, or was
abbrev Either : SpoolFiles → SpoolFiles → Type 0
Either taken now = (Some now ≡ Some taken) ⊎ IsListed (last_look taken) taken (Some now)

left_as_is : (world : World) (look : LastLook) (taken now : SpoolFiles) → last_look taken ≡ Ok look
    → look.sights ≡ sights_left world → look.whole ≡ length taken.lines
    → Some now ≡ Some taken → IsLookOf world now
left_as_is world look taken now e s w is =
    subst (IsLookOf world) (sym (of_some now taken is)) (look, e, s, w)

left_listed : (world : World) (look : LastLook) (taken now : SpoolFiles) → IsWritable world
    → length now.lines < 2 ^ 64 → length (finmap.entries (sights_left world)) < 2 ^ 64
    → last_look taken ≡ Ok look → look.sights ≡ sights_left world
    → look.whole ≡ length taken.lines → IsListed (last_look taken) taken (Some now)
    → IsLookOf world now
left_listed world look taken now writable fits few e s w is =
    let text = listing_text look.whole (sights_notes look.sights) in
    let listed : Some now ≡ Some (with_listing text taken) =
    subst (λ l. IsListed l taken (Some now)) e is in
    let same : now ≡ with_listing text taken = of_some now (with_listing text taken) listed in
    let whole : look.whole < 2 ^ 64 =
    subst (λ n. n < 2 ^ 64) (ap (λ files. length files.lines) same ∙ sym w) fits in
    let again = is_relisted look taken e (rw s (left_are_sights world writable)) whole (rw s few) in
    subst (IsLookOf world) (sym same) (look_listed look, again, s, w)

left_either : (world : World) (look : LastLook) (taken now : SpoolFiles) → IsWritable world
    → length now.lines < 2 ^ 64 → length (finmap.entries (sights_left world)) < 2 ^ 64
    → last_look taken ≡ Ok look → look.sights ≡ sights_left world
    → look.whole ≡ length taken.lines → Either taken now → IsLookOf world now
left_either world look taken now writable fits few e s w is =
    ⊎_elim {A = Some now ≡ Some taken} {B = IsListed (last_look taken) taken (Some now)}
    (λ same. left_as_is world look taken now e s w same)
    (λ listed. left_listed world look taken now writable fits few e s w listed)
    is

left_by : (last : LastLook) (world : World) (sent : List ℕ) (fields : List (List ℕ))
    (files taken now : SpoolFiles) → last_look files ≡ Ok last → ArePaths last.sights
    → IsWritable world → IsRecordWith fields sent → length now.lines < 2 ^ 64
    → length (finmap.entries (sights_left world)) < 2 ^ 64
    → Some taken ≡ Some (observed last world fields files) → Either taken now
    → IsLookOf world now
left_by last world sent fields files taken now e paths writable h fits few is either =
    let same = of_some taken (observed last world fields files) is in
    let followed = is_followed last world sent fields files e paths writable h in
    left_either world (look_taken last world taken) taken now writable fits few
    (rw same followed) refl refl either

left_of : (look : Result LastLook ObserveError) (read : Result (List (List ℕ)) RecordError)
    (world : World) (sent : List ℕ) (files taken now : SpoolFiles) → last_look files ≡ look
    → fields_of sent ≡ read → AreBytes sent → IsOk (record_of sent)
    → IfOk look (λ last. ArePaths last.sights) → IsWritable world → length now.lines < 2 ^ 64
    → length (finmap.entries (sights_left world)) < 2 ^ 64
    → IsObserved look world read files (Some taken) → Either taken now → IsLookOf world now
left_of (Err err) read world sent files taken now e f bytes ok paths writable fits few is or =
    absurd is
left_of (Ok last) (Err err) world sent files taken now e f bytes ok paths writable fits few is or =
    absurd is
left_of (Ok last) (Ok fs) world sent files taken now e f bytes ok paths writable fits few is or =
    left_by last world sent fs files taken now e paths writable (bytes, f, ok) fits few is or

pub is_left : (world : World) (sent : List ℕ) (files now : SpoolFiles) → AreBytes sent
    → IsOk (record_of sent) → IfOk (last_look files) (λ last. ArePaths last.sights)
    → IsWritable world → length now.lines < 2 ^ 64
    → length (finmap.entries (sights_left world)) < 2 ^ 64
    → IsTaken (last_look files) world (fields_of sent) files (Some now) → IsLookOf world now
is_left world sent files now bytes ok paths writable fits few taken =
    left_of (last_look files) (fields_of sent) world sent files taken.taken now refl refl bytes ok
    paths writable fits few taken.is_taken taken.listing

pub left_are_paths : (world : World) → IsWritable world → ArePaths (sights_left world)
left_are_paths world h = are_paths (sights_left world) (left_are_sights world h)
