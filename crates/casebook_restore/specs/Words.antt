-- Plans of restores in words.
use Rattle.std.specs.Prelude.{ℕ, Bool, true, false, List, [], ◌∷◌, ◌++◌, codes, count_by, decimal, length, map}
use Rattle.std.specs.Prelude.{◌+◌, ◌/◌, ◌%◌}
use Rattle.retro_tree.specs.declared.answer.Answer.TheVariants.{Bytes}
use Rattle.casebook_folder.specs.Plans.{is_ready_row}
use Rattle.casebook_folder.specs.States.{is_done}
use Rattle.casebook_folder.specs.declared.attributes.Attributes.{Attributes}
use Rattle.casebook_folder.specs.declared.found.Found.{Found}
use Rattle.casebook_folder.specs.declared.found.Found.TheVariants as founds
use Rattle.casebook_folder.specs.declared.obstacle.Obstacle.{Obstacle}
use Rattle.casebook_folder.specs.declared.obstacle.Obstacle.TheVariants as obstacles
use Rattle.casebook_folder.specs.declared.planned_row.PlannedRow.{PlannedRow}
use Rattle.casebook_folder.specs.declared.state.State.{State}
use Rattle.casebook_folder.specs.declared.state.State.TheVariants.{Ready, Done, Differs, Blocked}
use Rattle.casebook_words.specs.Difference.{difference_words}
use Rattle.casebook_words.specs.Words.{answer_words, path_words}
use Rattle.casebook_restore.specs.RowPlans.{node_found}
use Rattle.casebook_restore.specs.declared.task.RestorePlan.{RestorePlan}
use Rattle.casebook_restore.specs.declared.task.UnkeptPath.{UnkeptPath}

-- ---- modes and owners

-- one of the four octal digits of a mode
abbrev pub digit : ℕ → ℕ → List ℕ
digit mode unit = decimal (mode / unit % 8)

-- `0644 0:1003`
unfoldable pub attribute_words : Attributes → List ℕ
attribute_words a =
    digit a.mode 512 ++ digit a.mode 64 ++ digit a.mode 8 ++ digit a.mode 1 ++ codes " " ++ decimal a.uid
    ++ codes ":" ++ decimal a.gid

unfoldable pub keeps_words : Attributes → List ℕ
keeps_words a = codes "; keeps " ++ attribute_words a

unfoldable pub gets_words : Attributes → List ℕ
gets_words a = codes "; gets " ++ attribute_words a

-- which mode and owner a node has that comes in the place of what is found: those of what is found
-- if that is of its kind
unfoldable pub mode_words : Found → Found → List ℕ
mode_words founds.Missing founds.Missing = []
mode_words founds.Missing (founds.Dir a) = gets_words a
mode_words founds.Missing (founds.File y a) = gets_words a
mode_words founds.Missing (founds.Blocked o) = []
mode_words (founds.Dir b) founds.Missing = []
mode_words (founds.Dir b) (founds.Dir a) = keeps_words a
mode_words (founds.Dir b) (founds.File y a) = gets_words a
mode_words (founds.Dir b) (founds.Blocked o) = []
mode_words (founds.File x b) founds.Missing = []
mode_words (founds.File x b) (founds.Dir a) = gets_words a
mode_words (founds.File x b) (founds.File y a) = keeps_words a
mode_words (founds.File x b) (founds.Blocked o) = []
mode_words (founds.Blocked p) founds.Missing = []
mode_words (founds.Blocked p) (founds.Dir a) = gets_words a
mode_words (founds.Blocked p) (founds.File y a) = gets_words a
mode_words (founds.Blocked p) (founds.Blocked o) = []

-- ---- rows

-- why nothing is changed at a path
unfoldable pub obstacle_words : Obstacle → List ℕ
obstacle_words obstacles.Link = codes "a link is there"
obstacle_words obstacles.Special = codes "a device, a pipe or a socket is there"
obstacle_words obstacles.Mount = codes "another file system is mounted there"
obstacle_words obstacles.Above = codes "a link or another file system is above it"
obstacle_words obstacles.Unreadable = codes "it can't be read"
obstacle_words obstacles.TooLarge = codes "the file is too large"
obstacle_words obstacles.SeveralNames = codes "the file has several names"
obstacle_words obstacles.Changing = codes "it changes while it is read"
obstacle_words obstacles.TemporaryName = codes "it is named like an unfinished file"
obstacle_words obstacles.NameTaken = codes "something has the name that it has while it is unfinished"
obstacle_words obstacles.NameTooLong = codes "its name is too long to be restored"
obstacle_words obstacles.OtherChild = codes "the directory has what isn't recorded"

-- what is said of a path after its name: the recorded and the repaired node, with mode and owner if
-- it is to be changed; or the recorded one and what is found; or what is in the way
abbrev pub words_by : State → PlannedRow → List ℕ
words_by Ready r = difference_words (Bytes r.change.old) (Bytes r.change.new) ++ mode_words r.before r.after
words_by Done r = difference_words (Bytes r.change.old) (Bytes r.change.new)
words_by Differs r = difference_words (Bytes r.change.old) (Bytes (node_found r.before))
words_by (Blocked o) r = codes ": " ++ obstacle_words o

abbrev pub state_words : State → List ℕ
state_words Ready = codes "ready "
state_words Done = codes "done "
state_words Differs = codes "differs "
state_words (Blocked o) = codes "blocked "

unfoldable pub row_line : PlannedRow → List ℕ
row_line r = state_words r.state ++ path_words r.change.path ++ words_by r.state r

-- ---- plans

abbrev pub is_done_row : PlannedRow → Bool
is_done_row r = is_done r.state

abbrev pub is_differing : State → Bool
is_differing Ready = false
is_differing Done = false
is_differing Differs = true
is_differing (Blocked o) = false

abbrev pub is_differing_row : PlannedRow → Bool
is_differing_row r = is_differing r.state

abbrev pub is_blocked : State → Bool
is_blocked Ready = false
is_blocked Done = false
is_blocked Differs = false
is_blocked (Blocked o) = true

abbrev pub is_blocked_row : PlannedRow → Bool
is_blocked_row r = is_blocked r.state

-- how many paths have something in their way, or had what isn't kept
unfoldable pub count_blocked : RestorePlan → ℕ
count_blocked plan = count_by is_blocked_row plan.rows.items + length plan.unkept.items

-- how many paths are in each state, how many are outside of the folder, and how many aren't chosen
unfoldable pub head_line : RestorePlan → List ℕ
head_line plan =
    codes "ready " ++ decimal (count_by is_ready_row plan.rows.items)
    ++ codes ", done " ++ decimal (count_by is_done_row plan.rows.items)
    ++ codes ", differs " ++ decimal (count_by is_differing_row plan.rows.items)
    ++ codes ", blocked " ++ decimal (count_blocked plan)
    ++ codes ", outside the folder " ++ decimal plan.outside
    ++ codes ", not chosen " ++ decimal plan.left_out

abbrev pub end_line : List ℕ
end_line =
    codes "Paths are shown as recorded / as repaired, and where the folder differs as recorded / as in the folder."

-- a path that can't be restored, and what was there
unfoldable pub unkept_line : UnkeptPath → List ℕ
unkept_line u = codes "blocked " ++ path_words u.path ++ codes ": " ++ answer_words (Bytes u.node)

-- a plan in lines: the counts, each path, each that can't be restored, and how to read them
unfoldable pub plan_lines : RestorePlan → List (List ℕ)
plan_lines plan =
    head_line plan
    ∷ map row_line plan.rows.items ++ map unkept_line plan.unkept.items ++ end_line ∷ []
