-- The rows that a folder still needs, and those that lead back.
use Rattle.std.specs.Prelude.{◌≡◌, Bool, false, ◌||◌, IsTrue, List, [], ◌∷◌, ◌++◌, map}
use Rattle.std.specs.Prelude.{if◌then◌else◌, Option, Some, None}
use Rattle.retro_path.specs.Path.{PathValue}
use Rattle.casebook_folder.specs.Found.{found_eq, is_missing, is_blocked}
use Rattle.casebook_folder.specs.Steps.{Contents, Step, after_steps}
use Rattle.casebook_folder.specs.Rows.{row_at}
use Rattle.casebook_folder.specs.Moments.{IsMoment}
use Rattle.casebook_folder.specs.declared.row.Row.{Row}
use Rattle.casebook_folder.specs.declared.found.Found.{Found}

-- a row that begins with what is found
abbrev pub row_from : Row → Found → Row
row_from r x = record { path = r.path; before = x; after = r.after }

-- the rows that a folder still needs, each with what the folder holds now
abbrev pub remaining_rows : List Row → Contents → List Row
remaining_rows [] g = []
remaining_rows (r ∷ rs) g =
    if found_eq (g r.path) r.after then remaining_rows rs g
    else row_from r (g r.path) ∷ remaining_rows rs g

abbrev pub swapped_row : Row → Row
swapped_row r = record { path = r.path; before = r.after; after = r.before }

-- the rows that undo others
abbrev pub undo : List Row → List Row
undo rows = map swapped_row rows

-- whether a row can be carried out where something is found: it is what the row says that was
-- there, what is to be there, or nothing
abbrev pub can_go_on : Row → Found → Bool
can_go_on r x = found_eq x r.after || (found_eq x r.before || is_missing x)

abbrev pub IsSeen : Option Row → Found → Type 0
IsSeen None x = Unit {0}
IsSeen (Some r) x = x ≡ r.before

-- the folder holds at each row's path what the row says that was there
abbrev pub Sees : List Row → Contents → Type 0
Sees rows f = (q : PathValue) → IsSeen (row_at q rows) (f q)

abbrev pub CanGoOn : Option Row → Found → Type 0
CanGoOn None x = Unit {0}
CanGoOn (Some r) x = IsTrue (can_go_on r x)

-- each row can be carried out
abbrev pub MayGoOn : List Row → Contents → Type 0
MayGoOn rows g = (q : PathValue) → CanGoOn (row_at q rows) (g q)

-- each moment of a call that made the steps of `new` after those of `old` is one of the rows
abbrev pub EachMoment : List Row → Contents → List Step → List Step → Type 0
EachMoment rows first old new =
    (done left : List Step) → new ≡ old ++ (done ++ left)
    → IsMoment rows (after_steps old first) (after_steps (old ++ done) first)

-- a row is of the path, and nothing that is blocked is there
abbrev pub MayTouch : Option Row → Found → Type 0
MayTouch None x = ⊥
MayTouch (Some r) x = is_blocked x ≡ false

-- each of some steps is at a path of a row, where the folder held nothing that is blocked
abbrev pub AllTouch : List Row → Contents → List Step → Type 0
AllTouch rows f [] = Unit {0}
AllTouch rows f (s ∷ ss) = MayTouch (row_at s.path rows) (f s.path) × AllTouch rows f ss

-- a call that made the steps of `new` after those of `old` touched no other path
abbrev pub TouchesOnly : List Row → Contents → List Step → List Step → Type 0
TouchesOnly rows first old new =
    (made : List Step) → new ≡ old ++ made → AllTouch rows (after_steps old first) made
