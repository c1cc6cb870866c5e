-- What happened to paths between two looks, by their sights in both.
use Rattle.std.specs.Prelude.{Bool, true, false, not, ◌&&◌, ◌||◌, List, map, Option, Some, None}
use Rattle.std.specs.Prelude.{is_none, if◌then◌else◌}
use Rattle.std.specs.List.{filter}
use Rattle.std.specs.FinMap as finmap
use Rattle.retro_path.specs.Path.{PathValue}
use Rattle.casebook_watch.specs.Sight.{has_other_state, is_after, is_same_node, kind_eq, time_eq}
use Rattle.casebook_watch.specs.Sights.{Sights}
use Rattle.casebook_watch.specs.declared.kind.Kind.TheVariants.{Dir, File}
use Rattle.casebook_watch.specs.declared.sight.Sight.{Sight}

-- a file that wasn't there before was read if that was after it was written
abbrev pub is_read_once : Sight → Bool
is_read_once new = is_after new.read new.written

-- the same file was there before and was read at another time; or it wasn't there and was read
abbrev pub is_read_since : Option Sight → Sight → Bool
is_read_since None new = is_read_once new
is_read_since (Some old) new =
    if is_same_node old new then not (time_eq old.read new.read) else is_read_once new

-- a file that was read
abbrev pub is_read : Option Sight → Sight → Bool
is_read before new = kind_eq new.kind File && is_read_since before new

-- a directory that was there before and was listed at another time
abbrev pub is_listed : Option Sight → Sight → Bool
is_listed None new = false
is_listed (Some old) new =
    kind_eq new.kind Dir && is_same_node old new && not (time_eq old.read new.read)

-- nothing or something else was there before, or the same was changed
abbrev pub is_changed : Option Sight → Sight → Bool
is_changed None new = true
is_changed (Some old) new = not (is_same_node old new) || has_other_state old new

-- whether an entry of a look passes a test of the sights before and after
abbrev pub passes_from : (Option Sight → Sight → Bool) → Sights → PathValue × Sight → Bool
passes_from test before e = test (finmap.get before e.0) e.1

-- the paths of a look that pass a test of the sights before and after, in order
abbrev pub paths_where : (Option Sight → Sight → Bool) → Sights → Sights → List PathValue
paths_where test before after =
    map (λ e. e.0) (filter (passes_from test before) (finmap.entries after))

-- whether an entry of a look has no sight after
abbrev pub is_gone : Sights → PathValue × Sight → Bool
is_gone after e = is_none (finmap.get after e.0)

-- the paths of a look that have no sight after, in order
abbrev pub gone_paths : Sights → Sights → List PathValue
gone_paths before after = map (λ e. e.0) (filter (is_gone after) (finmap.entries before))

-- whether a path with these sights before and after passes a test: it has a sight after
abbrev pub passes : (Option Sight → Sight → Bool) → Option Sight → Option Sight → Bool
passes test before None = false
passes test before (Some new) = test before new
