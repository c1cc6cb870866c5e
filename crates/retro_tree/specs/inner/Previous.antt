-- What a setting of a session replaced, and how it is restored.
use Rattle.std.specs.Prelude.{ℕ, Bool, true, List, Option, Some, None}
use Rattle.std.specs.FinMap as map
use Rattle.retro_tree.specs.Session.{without_var}
use Rattle.retro_tree.specs.Setting.{with_setting}
use Rattle.retro_tree.specs.declared.session.Session.{Session}
use Rattle.retro_tree.specs.declared.setting.Setting.{Setting}
use Rattle.retro_tree.specs.declared.setting.Setting.TheVariants.{Var, Cwd, Status}
use Rattle.retro_tree.specs.declared.previous.Previous.{Previous}
use Rattle.retro_tree.specs.declared.previous.Previous.TheVariants.{Set, Unset}

-- a session with a previous setting restored
abbrev pub with_previous : Previous → Session → Session
with_previous (Set setting) session = with_setting setting session
with_previous (Unset name) session = without_var name session

-- what a setting replaces in a session
abbrev pub previous_var : List ℕ → Option (List ℕ) → Previous
previous_var name None = Unset name
previous_var name (Some text) = Set (Var name text)

abbrev pub previous_of : Setting → Session → Previous
previous_of (Var name text) session = previous_var name (map.get session.vars name)
previous_of (Cwd p) session = Set (Cwd session.cwd)
previous_of (Status n) session = Set (Status session.status)

-- whether restoring takes no memory: a variable is set already
abbrev pub has_place : Previous → Session → Bool
has_place (Set (Var name text)) session = map.contains_key session.vars name
has_place (Set (Cwd p)) session = true
has_place (Set (Status n)) session = true
has_place (Unset name) session = true
