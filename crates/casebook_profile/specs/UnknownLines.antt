-- The lines of a recording that aren't understood.
use Rattle.std.specs.Prelude.{ℕ, Bool, false, ◌==◌, ◌&&◌, ◌||◌, List, [], ◌∷◌, ◌++◌, Option, Some, None}
use Rattle.std.specs.FinMap as map
use Rattle.std.specs.List.{list_any}
use Rattle.retro_path.specs.Order.{text_eq}
use Rattle.retro_tree.specs.Session.{session_in}
use Rattle.retro_tree.specs.declared.change.Change.{Change}
use Rattle.retro_tree.specs.declared.change.Change.TheVariants.{Put, Grow, SetVar, SetCwd, SetStatus}
use Rattle.retro_tree.specs.declared.note.Note.{Note}
use Rattle.retro_tree.specs.declared.note.Note.TheVariants.{Asked, Made}
use Rattle.retro_tree.specs.declared.state.State.{State}
use Rattle.retro_keep.specs.Recording.{RecordingValue}
use Rattle.retro_keep.specs.declared.noted.Noted.{Noted}
use Rattle.casebook_usage.specs.declared.obstacle.Obstacle.{Obstacle}
use Rattle.casebook_profile.specs.Lines.{text_obstacle}
use Rattle.casebook_profile.specs.Scope.{Scope}
use Rattle.casebook_profile.specs.declared.unknown_line.UnknownLine.{UnknownLine}

-- ---- the variables that a recording knows

-- whether a change sets a variable of a session
abbrev pub sets : ℕ → List ℕ → Change → Bool
sets sid name (Put p node) = false
sets sid name (Grow p bytes) = false
sets sid name (SetVar k n text) = (k == sid) && text_eq n name
sets sid name (SetCwd k p) = false
sets sid name (SetStatus k status) = false

abbrev pub notes_setting : ℕ → List ℕ → Note → Bool
notes_setting sid name (Asked q a) = false
notes_setting sid name (Made c) = sets sid name c

-- whether a line sets a variable of a session, by its notes
abbrev pub line_sets : ℕ → List ℕ → ℕ × Noted → Bool
line_sets sid name line = list_any (notes_setting sid name) line.1.notes

-- whether a variable of a session is set in a first state or by one of some lines
abbrev pub is_set : State → List (ℕ × Noted) → ℕ → List ℕ → Bool
is_set first lines sid name =
    map.contains_key (session_in sid first.sessions).vars name || list_any (line_sets sid name) lines

-- what is known of the variables of a session after some lines
abbrev pub scope_after : State → List (ℕ × Noted) → ℕ → Scope
scope_after first lines sid = record { before = is_set first lines sid; set = []; loops = [] }

-- what is known of the variables of a session where a line begins in a state
abbrev pub scope_in : State → ℕ → Scope
scope_in s sid = record {
  before = map.contains_key (session_in sid s.sessions).vars;
  set = [];
  loops = [];
}

-- ---- lines

abbrev pub unknown_if : ℕ → Option Obstacle → List UnknownLine
unknown_if number None = []
unknown_if number (Some obstacle) = record { number = number; obstacle = obstacle } ∷ []

-- the lines that aren't understood among some lines after others
abbrev pub unknown_after : State → List (ℕ × Noted) → List (ℕ × Noted) → List UnknownLine
unknown_after first before [] = []
unknown_after first before (line ∷ lines) =
    unknown_if line.0 (text_obstacle (scope_after first before line.1.sid) line.1.text)
    ++ unknown_after first (before ++ line ∷ []) lines

-- the lines of a recording that aren't understood, in order
unfoldable pub unknown_lines_of : RecordingValue → List UnknownLine
unknown_lines_of r = unknown_after r.first [] r.lines
