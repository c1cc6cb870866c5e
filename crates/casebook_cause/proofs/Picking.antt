-- The changes of notes to the cells of a query, note by note.
use Rattle.std.proofs.Common.{◌≡◌, ◌∙◌, true, false, cond, List, [], ◌∷◌, ◌++◌, refl, ap}
use Rattle.retro_tree.specs.Ask.{supports}
use Rattle.retro_tree.specs.Change.{cell_of}
use Rattle.retro_tree.specs.declared.ask.Ask.{Ask}
use Rattle.retro_tree.specs.declared.change.Change.{Change}
use Rattle.retro_tree.specs.declared.note.Note.{Note}
use Rattle.retro_tree.specs.declared.note.Note.TheVariants.{Asked, Made}
use Rattle.casebook_cause.specs.Cause.{changes_for}

for_first : (q : Ask) (note : Note) (later : List Note)
    → changes_for q (note ∷ later) ≡ changes_for q (note ∷ []) ++ changes_for q later
for_first q (Asked a r) later = refl
for_first q (Made c) later =
    elim (supports q (cell_of c)) as (λ b. cond b (c ∷ changes_for q later) (changes_for q later)
    ≡ cond b (c ∷ []) [] ++ changes_for q later) [ true ↦ refl | false ↦ refl ]

pub for_change : (q : Ask) (note : Note) (later : List Note) (change : Change)
    → changes_for q (note ∷ []) ≡ change ∷ [] → changes_for q (note ∷ later) ≡ change ∷ changes_for q later
for_change q note later change is = for_first q note later ∙ ap (λ xs. xs ++ changes_for q later) is

pub for_nothing : (q : Ask) (note : Note) (later : List Note) → changes_for q (note ∷ []) ≡ []
    → changes_for q (note ∷ later) ≡ changes_for q later
for_nothing q note later is = for_first q note later ∙ ap (λ xs. xs ++ changes_for q later) is
