-- `pwd` and `cd` (XCU pwd, cd; 2.12 for subshells).
use Rattle.std.specs.Prelude.{ℕ, List, [], ◌∷◌, ◌++◌, Option, Some, None, flat_map, codes, if◌then◌else◌}
use Rattle.std.specs.FinMap as map
use Rattle.retro_tree.specs.Change.{put_cwd}
use Rattle.retro_tree.specs.Path.{PathValue}
use Rattle.retro_tree.specs.Session.{session_in}
use Rattle.retro_tree.specs.declared.state.State.{State}
use Rattle.retro_local.specs.Kinds.{kind_at}
use Rattle.retro_utils.specs.Operands.{Action, after_outcome, at_operand, is_dash}
use Rattle.retro_utils.specs.Outcomes.{complaint, made_unless, nothing_done, output, usage}
use Rattle.retro_utils.specs.Reasons.{no_directory}
use Rattle.retro_utils.specs.declared.done.Done.{Done}
use Rattle.retro_utils.specs.declared.place.Place.{Place}

-- each name, preceded by a slash
abbrev pub names_text : PathValue → List ℕ
names_text names = flat_map (λ name. codes "/" ++ name) names

-- the text of a path; the root's is a slash alone
abbrev pub path_text : PathValue → List ℕ
path_text [] = codes "/"
path_text (name ∷ names) = names_text (name ∷ names)

-- the directory of the session and a newline
unfoldable pub pwd : ℕ → List (List ℕ) → State → State × Done
pwd sid [] s = (s, output (path_text (session_in sid s.sessions).cwd ++ codes "\n"))
pwd sid (x ∷ xs) s = (s, usage (codes "pwd"))

-- the directory of the session set; a subshell leaves the session's
abbrev pub with_directory : Place → PathValue → State → State
with_directory place p s = if place.sub then s else put_cwd place.sid p s

-- the session goes to a directory
unfoldable pub enter : Place → Action
enter place p s = made_unless (no_directory (kind_at p s)) (with_directory place p) s

-- the session goes to the directory that an operand names
unfoldable pub cd_to : Place → List ℕ → State → State × Done
cd_to place operand s =
    after_outcome (codes "cd") operand (nothing_done 0) (at_operand place.sid (enter place) operand s)

unfoldable pub home_not_set : Done
home_not_set = complaint (codes "cd: HOME not set\n")

abbrev pub cd_home : Place → Option (List ℕ) → State → State × Done
cd_home place None s = (s, home_not_set)
cd_home place (Some []) s = (s, home_not_set)
cd_home place (Some (b ∷ text)) s = cd_to place (b ∷ text) s

-- the value of HOME
abbrev pub home_in : ℕ → State → Option (List ℕ)
home_in sid s = map.get (session_in sid s.sessions).vars (codes "HOME")

-- to the directory that the operand names, or HOME without an operand; `-` isn't supported
unfoldable pub cd : Place → List (List ℕ) → State → State × Done
cd place [] s = cd_home place (home_in place.sid s) s
cd place (x ∷ []) s = if is_dash x then (s, usage (codes "cd")) else cd_to place x s
cd place (x ∷ y ∷ more) s = (s, usage (codes "cd"))
