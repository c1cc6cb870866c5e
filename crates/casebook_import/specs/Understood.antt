-- Which texts can mean to Retro's shell what they mean to the machine's, by their form.
use Rattle.std.specs.Prelude.{ℕ, ◌&&◌, Bool, false, not, List, ◌++◌, map}
use Rattle.std.specs.Prelude.{Option, Some, None, is_none, if◌then◌else◌}
use Rattle.std.specs.List.{list_any}
use Rattle.std.specs.Str.{is_utf8}
use Rattle.retro_path.specs.Path.{PathValue, prefixes_of}
use Rattle.retro_tree.specs.Node.{bytes_in}
use Rattle.retro_tree.specs.Session.{session_in}
use Rattle.retro_tree.specs.Tree.{node_in}
use Rattle.retro_tree.specs.declared.state.State.{State}
use Rattle.casebook_needs.specs.Named.{paths_of}
use Rattle.casebook_needs.specs.Needs.{home_in}
use Rattle.casebook_profile.specs.Lines.{text_obstacle}
use Rattle.casebook_profile.specs.UnknownLines.{scope_in}
use Rattle.casebook_record.specs.declared.end.End.{End}
use Rattle.casebook_shell.specs.Rules.{means_itself, rules_of}
use Rattle.casebook_typed.specs.Lines.{LineValue}
use Rattle.casebook_typed.specs.Looks.{SeenValue}
use Rattle.casebook_explain.specs.Places.{shell_path}
use Rattle.casebook_import.specs.Effects.{ending, session_number}
use Rattle.casebook_opaque.specs.Opaque.{is_opaque}

-- ---- what stands for something else

abbrev pub has_opaque : Option (List ℕ) → Bool
has_opaque None = false
has_opaque (Some bytes) = is_opaque bytes

-- whether a path, or one above it, holds a text that stands for something else
abbrev pub is_in_opaque : State → PathValue → Bool
is_in_opaque s p = list_any (λ q. has_opaque (bytes_in (node_in q s.tree))) (prefixes_of p)

-- whether one of some paths does
abbrev pub touch_opaque : State → List PathValue → Bool
touch_opaque s paths = list_any (is_in_opaque s) paths

-- the paths that a line read, listed or changed
abbrev pub touched : SeenValue → List PathValue
touched seen = seen.read ++ seen.listed ++ map (λ change. change.path) seen.changes

-- the paths that the words of a session's text name
abbrev pub named : State → ℕ → List ℕ → List PathValue
named s sid text = paths_of (session_in sid s.sessions).cwd (home_in sid s) text

-- ---- the session's shell

-- whether functions, aliases and options leave a text as it is; if they aren't known, they don't
abbrev pub leave : Option (List ℕ) → List ℕ → Bool
leave None text = false
leave (Some shell) text = means_itself (rules_of shell) text

-- whether those that a session has in a state do
abbrev pub is_left : State → ℕ → List ℕ → Bool
is_left s sid text = leave (bytes_in (node_in (shell_path sid) s.tree)) text

-- ---- texts

-- whether a text is understood that a session runs in a state
abbrev pub is_understood : State → ℕ → List ℕ → Bool
is_understood s sid text =
    is_none (text_obstacle (scope_in s sid) text)
    && (is_left s sid text && not (touch_opaque s (named s sid text)))

-- a text, if it is UTF-8 and understood, and what its line touched isn't opaque
abbrev pub text_if : State → ℕ → SeenValue → List ℕ → Option (List ℕ)
text_if s sid seen text =
    if is_utf8 text && (is_understood s sid text && not (touch_opaque s (touched seen)))
    then Some text else None

abbrev pub text_by : State → ℕ → SeenValue → Option End → Option (List ℕ) → Option (List ℕ)
text_by s sid seen None text = None
text_by s sid seen (Some end) None = None
text_by s sid seen (Some end) (Some text) = text_if s sid seen text

-- The text of a line that ended, if it is understood in the state before the line.
unfoldable pub understood_text : State → LineValue → Option (List ℕ)
understood_text s line =
    text_by s (session_number line.owner) line.seen (ending line.extent line.shown.event) line.text
