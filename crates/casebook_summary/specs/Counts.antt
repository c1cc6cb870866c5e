-- What a summary counts.
use Rattle.std.specs.Prelude.{ℕ, Bool, true, false, ◌&&◌, List, [], count_by, is_some, map}
use Rattle.std.specs.BTreeSet.{insert_key}
use Rattle.std.specs.List.{filter, fold}
use Rattle.std.specs.Ordering.{nat_cmp}
use Rattle.casebook_changes.specs.declared.changed_path.PathChange.{PathChange}
use Rattle.casebook_changes.specs.declared.changed_path.PathChange.TheVariants.{Added, Removed, Modified}
use Rattle.casebook_profile.specs.declared.unknown_line.UnknownLine.{UnknownLine}
use Rattle.casebook_usage.specs.declared.obstacle.Obstacle.{Obstacle}
use Rattle.casebook_usage.specs.declared.obstacle.Obstacle.TheVariants as obstacles
use Rattle.casebook_view.specs.Fates.{fate_eq}
use Rattle.casebook_view.specs.declared.case_line.CaseLine.{CaseLine}
use Rattle.casebook_view.specs.declared.fate.Fate.{Fate}
use Rattle.casebook_view.specs.declared.fate.Fate.TheVariants as fates
use Rattle.casebook_summary.specs.declared.notice.Notice.{Notice}
use Rattle.casebook_summary.specs.declared.restoration.Restoration.{Restoration}

-- how many lines have a fate
abbrev pub count_of : List CaseLine → Fate → ℕ
count_of lines fate = count_by (λ line. fate_eq line.fate fate) lines

-- the sessions that ran lines, and those that are told something, each once
abbrev pub sessions_of : List CaseLine → List ℕ
sessions_of lines = fold (λ sessions line. insert_key nat_cmp sessions line.session) [] lines

abbrev pub sessions_told : List Notice → List ℕ
sessions_told notices = fold (λ sessions notice. insert_key nat_cmp sessions notice.session) [] notices

-- ---- paths

abbrev pub change_eq : PathChange → PathChange → Bool
change_eq Added Added = true
change_eq Removed Removed = true
change_eq Modified Modified = true
change_eq _ _ = false

-- how many paths are restored in a way
abbrev pub count_changed : List Restoration → PathChange → ℕ
count_changed rs change = count_by (λ r. change_eq r.change change) rs

-- ---- lines that aren't understood or have to be run for real

abbrev pub is_unknown_cancelled : CaseLine → Bool
is_unknown_cancelled line = fate_eq line.fate fates.Cancelled && is_some line.obstacle

-- how many of them are cancelled
abbrev pub unknown_cancelled : List CaseLine → ℕ
unknown_cancelled lines = count_by is_unknown_cancelled lines

abbrev pub obstacle_eq : Obstacle → Obstacle → Bool
obstacle_eq obstacles.Command obstacles.Command = true
obstacle_eq obstacles.Form obstacles.Form = true
obstacle_eq obstacles.Expansion obstacles.Expansion = true
obstacle_eq obstacles.Terminal obstacles.Terminal = true
obstacle_eq obstacles.Observed obstacles.Observed = true
obstacle_eq obstacles.Need obstacles.Need = true
obstacle_eq _ _ = false

-- the numbers of the lines with an obstacle, in order
abbrev pub numbers_with : Obstacle → List UnknownLine → List ℕ
numbers_with obstacle unknown =
    map (λ line. line.number) (filter (λ line. obstacle_eq line.obstacle obstacle) unknown)
