-- Whose sessions were recorded.
use Rattle.std.specs.Prelude.{ℕ, ◌==◌, ◌||◌, Bool, List, [], ◌∷◌, ◌++◌, Option, Some, None, count_by, fold, if◌then◌else◌, length}
use Rattle.std.specs.List.{list_any}
use Rattle.retro_path.specs.Order.{text_eq}
use Rattle.casebook_record.specs.declared.start.Start.{Start}
use Rattle.casebook_typed.specs.Sessions.{SessionValue}

abbrev pub login_in : Option Start → List ℕ
login_in (Some start) = start.login
login_in None = []

-- the login name of a session's user, or nothing if it isn't known
abbrev pub login_of : SessionValue → List ℕ
login_of session = login_in session.start

-- whether a name is among others
abbrev pub is_among : List (List ℕ) → List ℕ → Bool
is_among names name = list_any (λ other. text_eq other name) names

-- names with one more, unless it is unknown or among them
abbrev pub with_name : List (List ℕ) → List ℕ → List (List ℕ)
with_name names name =
    if length name == 0 || is_among names name then names else names ++ name ∷ []

-- the login names of sessions, each once, in the order in which they appear first
abbrev pub names_of : List SessionValue → List (List ℕ)
names_of sessions = fold (λ names session. with_name names (login_of session)) [] sessions

-- how many sessions are of the user with a login name
abbrev pub sessions_of : List SessionValue → List ℕ → ℕ
sessions_of sessions name = count_by (λ session. text_eq (login_of session) name) sessions
