-- Sessions: a directory, variables, and the status of the last line.
use Rattle.std.specs.Prelude.{ℕ, List, [], Option, Some, None}
use Rattle.std.specs.FinMap as map
use Rattle.std.specs.Ordering.{nat_cmp}
use Rattle.std.specs.Option.{unwrap_or}
use Rattle.retro_tree.specs.declared.session.Session.{Session}

-- the maximum size of the value of a variable, in bytes
abbrev pub value_limit : ℕ
value_limit = 65536

-- the greatest status
abbrev pub status_limit : ℕ
status_limit = 255

-- a session that doesn't exist counts as this one: at the root, without variables, with status 0
unfoldable pub default_session : Session
default_session = record { cwd = []; vars = map.empty; status = 0 }

-- the session with a number
abbrev pub session_in : ℕ → map.FinMap nat_cmp Session → Session
session_in sid sessions = unwrap_or (map.get sessions sid) default_session

-- a session with one setting made
abbrev pub with_var : List ℕ → List ℕ → Session → Session
with_var name text session = record session { vars = map.insert session.vars name text }

abbrev pub with_cwd : List (List ℕ) → Session → Session
with_cwd p session = record session { cwd = p }

abbrev pub with_status : ℕ → Session → Session
with_status status session = record session { status = status }

-- a session without a variable
abbrev pub without_var : List ℕ → Session → Session
without_var name session = record session { vars = map.remove session.vars name }

-- sessions with a variable of one of them unset, if that session exists
abbrev pub unset : Option Session → ℕ → List ℕ
    → map.FinMap nat_cmp Session → map.FinMap nat_cmp Session
unset None sid name sessions = sessions
unset (Some session) sid name sessions = map.insert sessions sid (without_var name session)
