-- Settings of a session: its variables, its directory, its status.
use Rattle.std.specs.Prelude.{Bool, true, nat_le, length}
use Rattle.retro_tree.specs.Session.{with_var, with_cwd, with_status, value_limit, status_limit}
use Rattle.retro_tree.specs.declared.session.Session.{Session}
use Rattle.retro_tree.specs.declared.setting.Setting.{Setting}
use Rattle.retro_tree.specs.declared.setting.Setting.TheVariants.{Var, Cwd, Status}

-- a session with a setting made
abbrev pub with_setting : Setting → Session → Session
with_setting (Var name text) session = with_var name text session
with_setting (Cwd p) session = with_cwd p session
with_setting (Status status) session = with_status status session

-- whether a setting is within the limits
abbrev pub setting_fits : Setting → Bool
setting_fits (Var name text) = nat_le (length text) value_limit
setting_fits (Cwd p) = true
setting_fits (Status status) = nat_le status status_limit
