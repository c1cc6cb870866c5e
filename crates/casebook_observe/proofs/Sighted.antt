-- The notes of a look lead to what it saw.
use Rattle.std.proofs.Common.{◌≡◌, ◌∙◌, List, [], ◌∷◌, ◌++◌, ap, map, refl}
use Rattle.std.specs.Prelude.{fold}
use Rattle.std.proofs.lemmas.List.Sums.{fold-append}
use Rattle.casebook_spool.specs.After.{after_items, after_notes, with_item, with_looked, with_note}
use Rattle.casebook_spool.specs.ReadBack as back
use Rattle.casebook_spool.specs.ReadBack.{Observation}
use Rattle.casebook_spool.specs.declared.item.Item.TheVariants as items
use Rattle.casebook_spool.specs.declared.note.Looked.{Looked}
use Rattle.casebook_spool.specs.declared.note.Note.{Note}
use Rattle.casebook_spool.specs.declared.note.Note.TheVariants as notes
use Rattle.casebook_watch.specs.Delta.{after_changes, with_change}
use Rattle.casebook_watch.specs.Sights.{Sights}
use Rattle.casebook_watch.specs.declared.sight_change.SightChange.{SightChange}
use Rattle.casebook_watch.proofs.Leading.{delta_leads}
use Rattle.casebook_observe.specs.Followed.{sights_left}
use Rattle.casebook_observe.specs.Notes.{changes_since, due_since, holds_notes, notes_between}
use Rattle.casebook_observe.specs.Worlds.{World}

-- ---- notes of one kind

abbrev sight_notes : List SightChange → List Note
sight_notes changes = map (λ change. notes.Sight change) changes

abbrev looked_notes : List Looked → List Note
looked_notes looked = map (λ l. notes.Looked l) looked

after_sights : (sights : Sights) (changes : List SightChange)
    → after_notes sights (sight_notes changes) ≡ after_changes sights changes
after_sights sights [] = refl
after_sights sights (change ∷ changes) = after_sights (with_change sights change) changes

after_holds : (sights : Sights) (world : World) (changes : List SightChange)
    → after_notes sights (holds_notes world changes) ≡ sights
after_holds sights world [] = refl
after_holds sights world (change ∷ changes) = after_holds sights world changes

after_looked : (sights : Sights) (looked : List Looked)
    → after_notes sights (looked_notes looked) ≡ fold with_looked sights looked
after_looked sights [] = refl
after_looked sights (l ∷ looked) = after_looked (with_looked sights l) looked

-- ---- all of them

pub notes_lead : (before : Sights) (world : World)
    → after_notes before (notes_between before world) ≡ sights_left world
notes_lead before world =
    let changes = changes_since before world in
    let held = holds_notes world (due_since before world) in
    let looked = looked_notes world.looked in
    fold-append with_note before (sight_notes changes ++ held) looked
    ∙ ap (λ sights. after_notes sights looked) (
    fold-append with_note before (sight_notes changes) held
    ∙ ap (λ sights. after_notes sights held)
    (after_sights before changes ∙ delta_leads before world.sights)
    ∙ after_holds world.sights world (due_since before world)
    )
    ∙ after_looked world.sights world.looked

-- ---- items

note_items_lead : (sights : Sights) (all : List Note)
    → after_items sights (map (λ note. items.Note note) all) ≡ after_notes sights all
note_items_lead sights [] = refl
note_items_lead sights (note ∷ all) = note_items_lead (with_note sights note) all

pub items_lead : (sights : Sights) (o : Observation)
    → after_items sights (back.items_of o) ≡ after_notes sights o.noted
items_lead sights o =
    fold-append with_item sights (map (λ note. items.Note note) o.noted) (items.Record o.said ∷ [])
    ∙ note_items_lead sights o.noted
