-- The limits on files, on the values of variables and on statuses.
use Rattle.std.specs.Prelude.{◌≡◌, ◌≤◌, ℕ, Bool, ◌&&◌, nat_le, List, length, Some}
use Rattle.std.specs.List.{list_all}
use Rattle.std.specs.Ordering.{nat_cmp}
use Rattle.std.specs.FinMap as map
use Rattle.retro_tree.specs.Order.{text_cmp}
use Rattle.retro_tree.specs.Path.{PathValue}
use Rattle.retro_tree.specs.Node.{file_limit, node_of, size_of}
use Rattle.retro_tree.specs.Tree.{Tree, node_in}
use Rattle.retro_tree.specs.Session.{value_limit, status_limit}
use Rattle.retro_tree.specs.declared.entry.Entry.{Entry}
use Rattle.retro_tree.specs.declared.session.Session.{Session}
use Rattle.retro_tree.specs.declared.state.State.{State}

-- A session is lawful if its status and the values of its variables are within the limits.
pub record IsLawfulSession (session : Session) : Type 0 where
  pub status : session.status ≤ status_limit
  pub values : (name value : List ℕ)
      → map.get session.vars name ≡ Some value → length value ≤ value_limit

unfoldable pub AreLawfulSessions : map.FinMap nat_cmp Session → Type 0
AreLawfulSessions sessions =
    (sid : ℕ) (session : Session) → map.get sessions sid ≡ Some session → IsLawfulSession session

-- A state is within the limits if each file and each session is.
pub record IsWithinLimits (s : State) : Type 0 where
  pub files : (p : PathValue) → size_of (node_in p s.tree) ≤ file_limit
  pub sessions : AreLawfulSessions s.sessions

-- whether the values of all variables are within the limit
unfoldable pub values_fit : map.FinMap text_cmp (List ℕ) → Bool
values_fit vars = list_all (λ e. nat_le (length e.1) value_limit) (map.entries vars)

abbrev pub session_fits : ℕ × Session → Bool
session_fits e = nat_le e.1.status status_limit && values_fit e.1.vars

-- whether all sessions are within the limits
unfoldable pub are_lawful_sessions : map.FinMap nat_cmp Session → Bool
are_lawful_sessions sessions = list_all session_fits (map.entries sessions)

abbrev pub entry_fits : PathValue × Entry → Bool
entry_fits e = nat_le (size_of (node_of (Some e.1))) file_limit

-- whether all files are within the limit
unfoldable pub files_fit : Tree → Bool
files_fit tree = list_all entry_fits (map.entries tree)

-- whether a state is within the limits
unfoldable pub within_limits : State → Bool
within_limits s = files_fit s.tree && are_lawful_sessions s.sessions
