-- Changes of sights: what leads from one look to another, and what changes lead to.
use Rattle.std.specs.Prelude.{Bool, true, not, List, map, ◌++◌, fold, Option, Some, None}
use Rattle.std.specs.List.{filter}
use Rattle.std.specs.FinMap as finmap
use Rattle.retro_path.specs.Path.{PathValue}
use Rattle.casebook_watch.specs.Sight.{sight_eq}
use Rattle.casebook_watch.specs.Sights.{Sights}
use Rattle.casebook_watch.specs.Seen.{is_gone, passes_from}
use Rattle.casebook_watch.specs.declared.sight.Sight.{Sight}
use Rattle.casebook_watch.specs.declared.sight_change.SightChange.{SightChange}

-- no sight was there before, or one that differs in something
abbrev pub is_other : Option Sight → Sight → Bool
is_other None new = true
is_other (Some old) new = not (sight_eq old new)

-- the path of an entry gets its sight
abbrev pub new_sight : PathValue × Sight → SightChange
new_sight e = record { path = e.0; sight = Some e.1 }

-- the path of an entry loses its sight
abbrev pub no_sight : PathValue × Sight → SightChange
no_sight e = record { path = e.0; sight = None }

-- first the paths with a new sight or another one, and then those that are gone, each in order
abbrev pub delta : Sights → Sights → List SightChange
delta before after =
    map new_sight (filter (passes_from is_other before) (finmap.entries after))
    ++ map no_sight (filter (is_gone after) (finmap.entries before))

-- a path gets a sight, or loses the one that it has
abbrev pub with_sight : PathValue → Option Sight → Sights → Sights
with_sight p None sights = finmap.remove sights p
with_sight p (Some sight) sights = finmap.insert sights p sight

abbrev pub with_change : Sights → SightChange → Sights
with_change sights change = with_sight change.path change.sight sights

-- the changes made one after the other
abbrev pub after_changes : Sights → List SightChange → Sights
after_changes = fold with_change
