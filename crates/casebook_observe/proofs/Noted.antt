-- The notes of a look are ones that can be written and read back.
use Rattle.std.proofs.Common.{Bool, true, false, cond, List, [], ◌∷◌, ◌++◌, All, map, refl}
use Rattle.std.specs.Prelude.{◌&&◌, IsTrue}
use Rattle.std.specs.List.{filter}
use Rattle.std.specs.FinMap as finmap
use Rattle.std.proofs.lemmas.List.Elements.{All-append, All-cons, All-filter, All-head, All-map}
use Rattle.std.proofs.lemmas.List.Elements.{All-nil, All-tail, All-weaker}
use Rattle.std.proofs.lemmas.Bool.{false≢true}
use Rattle.sha2.proofs.Facts256.{length-sha256}
use Rattle.casebook_spool.specs.Valid.{IsContent, IsNote, IsPath, IsSight}
use Rattle.casebook_spool.specs.declared.note.Note.TheVariants as notes
use Rattle.casebook_watch.specs.Delta.{is_other, new_sight, no_sight}
use Rattle.casebook_watch.specs.Seen.{is_changed, is_gone, passes_from}
use Rattle.casebook_watch.specs.Sights.{Sights}
use Rattle.casebook_watch.specs.declared.sight_change.SightChange.{SightChange}
use Rattle.casebook_watch.proofs.Naming.{Entry}
use Rattle.casebook_observe.proofs.Digests.{sha256_bytes}
use Rattle.casebook_observe.specs.Notes.{content_of, due_changes, holds_note, holds_notes, is_due}
use Rattle.casebook_observe.specs.Notes.{is_read, notes_between}
use Rattle.casebook_observe.specs.Worlds.{World}
use Rattle.casebook_observe.specs.Writable.{ArePaths, IsFound, IsSeen, IsWritable}
use Rattle.casebook_observe.specs.declared.found.Found.{Found}
use Rattle.casebook_observe.specs.declared.found.Found.TheVariants as founds

-- ---- sights

abbrev IsChange : SightChange → Type 0
IsChange change = IsNote (notes.Sight change)

new_changes : (world : World) (es : List Entry) → All (IsSeen world) es
    → All IsChange (map new_sight es)
new_changes world es h =
    All-map IsChange new_sight es
    (All-weaker (IsSeen world) (λ e. IsPath e.0 × IsSight e.1) (λ e k. (k.0, k.1)) es h)

gone_changes : (es : List Entry) → All (λ e. IsPath e.0) es → All IsChange (map no_sight es)
gone_changes es h =
    All-map IsChange no_sight es
    (All-weaker (λ e. IsPath e.0) (λ e. IsPath e.0 × Unit {0}) (λ e k. (k, tt)) es h)

-- ---- what files and links hold

content : (found : Found) → IsFound found → IsContent (content_of found)
content (founds.Bytes bytes) h = (length-sha256 bytes, sha256_bytes bytes)
content (founds.Target target) h = h
content (founds.Unkept why) h = tt

-- a change that is read is one whose path holds something
abbrev HoldsIfDue : World → Sights → SightChange → Type 0
HoldsIfDue world before change =
    IsTrue (is_due (finmap.get before change.path) change.sight)
    → IsNote (holds_note change.path (world.held change.path))

first_of_both : (a b : Bool) → IsTrue (a && b) → IsTrue a
first_of_both true b h = refl
first_of_both false b h = h

new_holds : (world : World) (before : Sights) (es : List Entry) → All (IsSeen world) es
    → All (HoldsIfDue world before) (map new_sight es)
new_holds world before es h =
    All-map (HoldsIfDue world before) new_sight es
    (All-weaker (IsSeen world) (λ e. HoldsIfDue world before (new_sight e))
    (λ e k due. (
      k.0,
      content (world.held e.0)
          (k.2 (first_of_both (is_read e.1.kind) (is_changed (finmap.get before e.0) e.1) due)),
    )) es h)

gone_holds : (world : World) (before : Sights) (es : List Entry)
    → All (HoldsIfDue world before) (map no_sight es)
gone_holds world before [] = All-nil (HoldsIfDue world before)
gone_holds world before (e ∷ es) =
    All-cons (HoldsIfDue world before) (no_sight e) (map no_sight es)
    (λ due. absurd (false≢true due))
    (gone_holds world before es)

one_held : (world : World) (before : Sights) (change : SightChange) (rest : List SightChange)
    (b : Bool) → (IsTrue b → IsNote (holds_note change.path (world.held change.path)))
    → All IsNote (holds_notes world rest)
    → All IsNote (holds_notes world (cond b (change ∷ rest) rest))
one_held world before change rest true h k =
    All-cons IsNote (holds_note change.path (world.held change.path)) (holds_notes world rest)
    (h refl) k
one_held world before change rest false h k = k

all_held : (world : World) (before : Sights) (changes : List SightChange)
    → All (HoldsIfDue world before) changes
    → All IsNote (holds_notes world (due_changes before changes))
all_held world before [] h = All-nil IsNote
all_held world before (change ∷ changes) h =
    one_held world before change (due_changes before changes)
    (is_due (finmap.get before change.path) change.sight)
    (All-head (HoldsIfDue world before) change changes h)
    (all_held world before changes (All-tail (HoldsIfDue world before) change changes h))

-- ---- all notes

pub are_notes : (before : Sights) (world : World) → ArePaths before → IsWritable world
    → All IsNote (notes_between before world)
are_notes before world h k =
    let newer = filter (passes_from is_other before) (finmap.entries world.sights) in
    let gone = filter (is_gone world.sights) (finmap.entries before) in
    let changes = map new_sight newer ++ map no_sight gone in
    let seen : All (IsSeen world) newer =
    All-filter (passes_from is_other before) (IsSeen world) (finmap.entries world.sights) k.0 in
    let paths : All (λ e. IsPath e.0) gone =
    All-filter (is_gone world.sights) (λ e. IsPath e.0) (finmap.entries before) h in
    let held = all_held world before changes
    (All-append (HoldsIfDue world before) (map new_sight newer) (map no_sight gone)
    (new_holds world before newer seen) (gone_holds world before gone)) in
    All-append IsNote
    (map (λ change. notes.Sight change) changes ++ holds_notes world (due_changes before changes))
    (map (λ looked. notes.Looked looked) world.looked)
    (All-append IsNote (map (λ change. notes.Sight change) changes)
    (holds_notes world (due_changes before changes))
    (All-map IsNote (λ change. notes.Sight change) changes
    (All-append IsChange (map new_sight newer) (map no_sight gone)
    (new_changes world newer seen) (gone_changes gone paths)))
    held)
    (All-map IsNote (λ looked. notes.Looked looked) world.looked k.1)
