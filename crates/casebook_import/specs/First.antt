-- The state before all lines.
use Rattle.std.specs.Prelude.{ℕ, ◌+◌, Bool, List, [], ◌∷◌, ◌++◌, map}
use Rattle.std.specs.Prelude.{Option, Some, None, is_some, if◌then◌else◌}
use Rattle.std.specs.FinMap as finmap
use Rattle.std.specs.List.{list_any}
use Rattle.retro_path.specs.Path.{PathValue, parent_of, prefixes_of}
use Rattle.retro_tree.specs.Session.{default_session}
use Rattle.retro_tree.specs.State.{empty_state, put_node, put_session}
use Rattle.retro_tree.specs.Tree.{node_in}
use Rattle.retro_tree.specs.declared.node.Node.{Node}
use Rattle.retro_tree.specs.declared.node.Node.TheVariants.{Missing, Dir, File}
use Rattle.retro_tree.specs.declared.session.Session.{Session}
use Rattle.retro_tree.specs.declared.state.State.{State}
use Rattle.casebook_record.specs.declared.record.Record.{Record}
use Rattle.casebook_record.specs.declared.start.Start.{Start}
use Rattle.casebook_needs.specs.Named.{named_path}
use Rattle.casebook_spool.specs.After.{after_notes}
use Rattle.casebook_spool.specs.declared.note.Note.{Note}
use Rattle.casebook_spool.specs.declared.note.Note.TheVariants as notes
use Rattle.casebook_watch.specs.Sights.{Sights}
use Rattle.casebook_typed.specs.Lines.{LineValue}
use Rattle.casebook_typed.specs.Sessions.{SessionValue}
use Rattle.casebook_explain.specs.Places.{shell_path}
use Rattle.casebook_import.specs.Directories.{elsewhere, first_directory}
use Rattle.casebook_import.specs.Effects.{shell_bytes}
use Rattle.casebook_spool.specs.Held.{Held}
use Rattle.casebook_import.specs.Nodes.{node_of}
use Rattle.casebook_import.specs.Variables.{Vars, vars_of}

-- ---- nodes

abbrev pub or_directory : PathValue → Node → State → State
or_directory p Missing s = put_node p Dir s
or_directory p Dir s = s
or_directory p (File bytes) s = s

-- a state with a directory at a path, unless something is there
abbrev pub with_directory : PathValue → State → State
with_directory p s = or_directory p (node_in p s.tree) s

-- a state with a directory at each path at which nothing is, one after the other
abbrev pub with_directories : List PathValue → State → State
with_directories [] s = s
with_directories (p ∷ ps) s = with_directories ps (with_directory p s)

-- a state with a node at a path, below directories
abbrev pub with_node : PathValue → Node → State → State
with_node p node s = put_node p node (with_directories (prefixes_of (parent_of p)) s)

-- a state with what a note of the first look says, whose sights are these
abbrev pub with_note : Held → Sights → Note → State → State
with_note held sights (notes.Sight change) s =
    with_node change.path (node_of held change.sight None) s
with_note held sights (notes.Holds holds) s =
    with_node holds.path (node_of held (finmap.get sights holds.path) (Some holds.content)) s
with_note held sights (notes.Looked looked) s = s

abbrev pub with_notes : Held → Sights → List Note → State → State
with_notes held sights [] s = s
with_notes held sights (note ∷ rest) s =
    with_notes held sights rest (with_note held sights note s)

-- ---- directories that aren't watched

-- whether a path is one of those that the first look saw, or below one
abbrev pub is_watched : Sights → PathValue → Bool
is_watched sights p = list_any (λ q. is_some (finmap.get sights q)) ([] ∷ prefixes_of p)

abbrev pub with_unwatched : Sights → Option PathValue → State → State
with_unwatched sights None s = s
with_unwatched sights (Some p) s =
    if is_watched sights p then s else with_directories (prefixes_of p) s

-- A state with the directories of these names that aren't watched, since nothing tells when they
-- were made.
abbrev pub with_places : Sights → List (List ℕ) → State → State
with_places sights [] s = s
with_places sights (name ∷ names) s =
    with_places sights names (with_unwatched sights (named_path [] name) s)

-- ---- sessions

abbrev pub directory_by : Option Record → List ℕ
directory_by None = []
directory_by (Some r) = r.directory

abbrev pub vars_by : Option Start → Option (List ℕ)
vars_by None = None
vars_by (Some start) = start.variables

abbrev pub shell_by : Option Start → Option (List ℕ)
shell_by None = None
shell_by (Some start) = start.shell

abbrev pub said_vars : Option (List ℕ) → Option Vars
said_vars None = None
said_vars (Some text) = vars_of text

-- no variables, if nothing is said of them, or something that no bash prints
abbrev pub vars_or_none : Option Vars → Vars
vars_or_none None = finmap.empty
vars_or_none (Some vars) = vars

-- a session as it begins
abbrev pub first_session : SessionValue → Session
first_session session = record {
  cwd = first_directory (directory_by session.first);
  vars = vars_or_none (said_vars (vars_by session.start));
  status = 0;
}

abbrev pub with_shell : ℕ → Option (List ℕ) → State → State
with_shell number None s = s
with_shell number (Some text) s = put_node (shell_path number) (File (shell_bytes text)) s

-- a state with sessions, of which the first one has this number
abbrev pub with_sessions : ℕ → List SessionValue → State → State
with_sessions number [] s = s
with_sessions number (session ∷ rest) s =
    with_sessions (number + 1) rest
    (put_session number (first_session session) (with_shell number (shell_by session.start) s))

-- ---- all of it

-- /.casebook, with what stands for directories that no state has, and the directory of shells' texts
abbrev pub with_ours : State → State
with_ours s = with_directories (prefixes_of elsewhere ++ prefixes_of (parent_of (shell_path 0))) s

-- the directories that records name
abbrev pub directory_names : List SessionValue → List LineValue → List (List ℕ)
directory_names sessions lines =
    map (λ session. directory_by session.first) sessions
    ++ map (λ line. line.shown.directory) lines

abbrev pub state_by : Held → Sights → List Note → List SessionValue → List LineValue → State
state_by held sights noted sessions lines =
    with_sessions 1 sessions
    (put_session 0 default_session
    (with_places sights (directory_names sessions lines)
    (with_ours (with_notes held sights noted empty_state))))

-- The state before all lines: what the first look saw, the directories that aren't watched, and the
-- sessions as they begin. Session 0 is nobody's.
unfoldable pub first_state : Held → List Note → List SessionValue → List LineValue → State
first_state held noted sessions lines =
    state_by held (after_notes finmap.empty noted) noted sessions lines
