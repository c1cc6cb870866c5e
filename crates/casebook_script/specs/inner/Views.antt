-- Values of the code, as definitions see them.
use Rattle.std.specs.Prelude.{ℕ, List}
use Rattle.std.specs.BTreeMap.{BTreeMap}
use Rattle.std.specs.FinMap.{from_entries}
use Rattle.retro_tree.specs.declared.session.Session.{Session}
use Rattle.casebook_script.specs.Sessions.{Vars, session_with}
use Rattle.casebook_script.specs.declared.sessions.SessionRow.{SessionRow}

abbrev pub vars_view : BTreeMap (List ℕ) (List ℕ) → Vars
vars_view vars = from_entries vars.entries

abbrev pub session_view : SessionRow → ℕ × Session
session_view row = (row.sid, session_with row.cwd (vars_view row.vars))
