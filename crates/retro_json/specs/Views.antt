-- The reader's rows as the definitions see them.
use Rattle.std.specs.Prelude.{ℕ, Result}
use Rattle.std.specs.FinMap.{from_entries}
use Rattle.retro_tree.specs.declared.session.Session.{Session}
use Rattle.retro_json.specs.declared.fault.Refusal.{Refusal}
use Rattle.retro_json.specs.declared.reading.sessions.Row.{Row}
use Rattle.retro_json.specs.declared.reading.sessions.SessionParts.{SessionParts}
use Rattle.retro_json.specs.ReadsAs.{seen}

abbrev pub session_view : SessionParts → Session
session_view s = record { cwd = s.cwd; vars = from_entries s.vars.entries; status = s.status }

abbrev pub row_view : Row → ℕ × Result Session Refusal
row_view r = (r.sid, seen session_view r.session)
