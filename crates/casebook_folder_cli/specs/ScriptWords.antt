-- The command `script`, as `clap` reads it, and what it asks for.
use Rattle.std.specs.Prelude.{Bool, ◌&&◌, ◌||◌, List, [], ◌∷◌, Result, Ok, Err, codes}
use Rattle.std.specs.Prelude.{if◌then◌else◌, nat_eq, ok_or}
use Rattle.std.specs.Cmp.Lexicographic.{pointwise}
use Rattle.clap.specs.Words.{Rule, Text}
use Rattle.retro_edge.specs.Calls.{Call, given}
use Rattle.retro_edge.specs.Rules.{help_flag, option, word}
use Rattle.casebook_folder_cli.specs.Words.{◌>>=◌}
use Rattle.casebook_folder_cli.specs.declared.request.FolderProblem.{FolderProblem}
use Rattle.casebook_folder_cli.specs.declared.request.FolderProblem.TheVariants as problems

-- the document of a snapshot, and the tables of sessions and of lines
abbrev pub script_rules : List Rule
script_rules =
    help_flag ∷ word (codes "document") ∷ option (codes "sessions") ∷ option (codes "lines") ∷ []

-- the names of the document of a snapshot and of both tables
pub record ScriptValue : Type 0 where
  pub document : Text
  pub sessions : Text
  pub lines : Text

abbrev pub script_with : Text → Text → Text → ScriptValue
script_with document sessions lines =
    record { document = document; sessions = sessions; lines = lines }

abbrev pub is_input_name : Text → Bool
is_input_name name = pointwise nat_eq name (codes "-")

-- whether two of the names are that of standard input
abbrev pub is_input_twice : ScriptValue → Bool
is_input_twice names =
    (is_input_name names.document && (is_input_name names.sessions || is_input_name names.lines))
    || (is_input_name names.sessions && is_input_name names.lines)

-- standard input isn't named twice
abbrev pub named_once : ScriptValue → Result ScriptValue FolderProblem
named_once names = if is_input_twice names then Err problems.InputTwice else Ok names

-- of what `script` makes a script
abbrev pub script_asked : Call → Result ScriptValue FolderProblem
script_asked call = do
  document ← ok_or (given (codes "document") call) problems.NoDocument
  sessions ← ok_or (given (codes "sessions") call) problems.NoSessions
  lines ← ok_or (given (codes "lines") call) problems.NoLines
  named_once (script_with document sessions lines)
