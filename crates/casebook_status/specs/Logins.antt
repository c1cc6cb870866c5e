-- Logins that aren't recorded.
use Rattle.std.specs.Prelude.{ℕ, ◌&&◌, Bool, false, not, List, ◌++◌, Option, Some, None, codes}
use Rattle.std.specs.List.{filter, list_any}
use Rattle.retro_path.specs.Order.{text_eq}
use Rattle.casebook_host.specs.Logins.{LoginValue}
use Rattle.casebook_record.specs.declared.start.Start.{Start}
use Rattle.casebook_typed.specs.Sessions.{SessionValue}

-- the terminal to which a list of logins gives a name
abbrev pub terminal_named : List ℕ → List ℕ
terminal_named name = codes "/dev/" ++ name

abbrev pub starts_at : LoginValue → Option Start → Bool
starts_at login (Some start) =
    text_eq start.login login.name && text_eq start.terminal (terminal_named login.terminal)
starts_at login None = false

-- whether a session is one of the user and at the terminal of a login
abbrev pub is_of : LoginValue → SessionValue → Bool
is_of login session = starts_at login session.start

-- whether such a session was recorded
abbrev pub is_recorded : List SessionValue → LoginValue → Bool
is_recorded sessions login = list_any (is_of login) sessions

-- the logins of which none was
abbrev pub unrecorded : List SessionValue → List LoginValue → List LoginValue
unrecorded sessions logins = filter (λ login. not (is_recorded sessions login)) logins
