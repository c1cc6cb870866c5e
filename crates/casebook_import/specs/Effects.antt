-- What a line left, as an effect over the state before it.
use Rattle.std.specs.Prelude.{ℕ, List, [], ◌∷◌, codes, length, nat_le, Option, Some, None}
use Rattle.std.specs.Prelude.{if◌then◌else◌}
use Rattle.std.specs.FinMap as finmap
use Rattle.std.specs.List.{filter_map}
use Rattle.hex.specs.Hex.{encode_lower}
use Rattle.sha2.specs.Sha256.{sha256}
use Rattle.retro_path.specs.Order.{path_eq}
use Rattle.retro_path.specs.Path.{PathValue}
use Rattle.retro_tree.specs.Node.{file_limit}
use Rattle.retro_tree.specs.Session.{session_in}
use Rattle.retro_tree.specs.declared.cell.Cell.{Cell}
use Rattle.retro_tree.specs.declared.cell.Cell.TheVariants as cells
use Rattle.retro_tree.specs.declared.node.Node.TheVariants.{File}
use Rattle.retro_tree.specs.declared.state.State.{State}
use Rattle.retro_tree.specs.declared.value.Value.{Value}
use Rattle.retro_tree.specs.declared.value.Value.TheVariants as values
use Rattle.casebook_record.specs.declared.end.End.{End}
use Rattle.casebook_record.specs.declared.event.Event.{Event}
use Rattle.casebook_record.specs.declared.event.Event.TheVariants as events
use Rattle.casebook_typed.specs.Lines.{LineValue}
use Rattle.casebook_typed.specs.Looks.{ChangeValue}
use Rattle.casebook_typed.specs.declared.line.Extent.{Extent}
use Rattle.casebook_typed.specs.declared.line.Extent.TheVariants as extents
use Rattle.casebook_typed.specs.declared.line.Owner.{Owner}
use Rattle.casebook_typed.specs.declared.line.Owner.TheVariants as owners
use Rattle.casebook_stand_in.specs.Effect.{EffectValue, status_alone, with_cell}
use Rattle.casebook_explain.specs.Places.{shell_path}
use Rattle.casebook_import.specs.Directories.{directory_in}
use Rattle.casebook_spool.specs.Held.{Held}
use Rattle.casebook_import.specs.Nodes.{node_of}
use Rattle.casebook_import.specs.Opaque.{opaque}
use Rattle.casebook_import.specs.Variables.{Vars, changed_var, unset_var, vars_of}

-- ---- watched folders

-- an effect with what is at the paths that were changed
abbrev pub with_nodes : Held → List ChangeValue → EffectValue → EffectValue
with_nodes held [] effect = effect
with_nodes held (change ∷ changes) effect =
    with_nodes held changes
    (with_cell (cells.At change.path)
    (values.Node (node_of held change.sight change.content)) effect)

-- ---- sessions

-- an effect with the directory of its session, if that is another one than before
abbrev pub with_cwd : PathValue → PathValue → EffectValue → EffectValue
with_cwd old new effect =
    if path_eq old new then effect else with_cell (cells.Cwd effect.sid) (values.Cwd new) effect

-- an effect with the directory of this name, by the state before the line
abbrev pub with_directory : State → List ℕ → EffectValue → EffectValue
with_directory s name effect =
    with_cwd (session_in effect.sid s.sessions).cwd (directory_in s effect name) effect

-- an effect with the values of more cells
abbrev pub with_cells : List (Cell × Value) → EffectValue → EffectValue
with_cells [] effect = effect
with_cells (c ∷ cs) effect = with_cells cs (with_cell c.0 c.1 effect)

-- an effect with the variables that have another value than before, and then those that are unset
abbrev pub with_vars : Vars → Vars → EffectValue → EffectValue
with_vars old new effect =
    with_cells (filter_map (unset_var effect.sid new) (finmap.entries old))
    (with_cells (filter_map (changed_var effect.sid old) (finmap.entries new)) effect)

-- Variables stay as they are if no bash prints what is said of them.
abbrev pub with_vars_or : Vars → Option Vars → EffectValue → EffectValue
with_vars_or old None effect = effect
with_vars_or old (Some new) effect = with_vars old new effect

-- an effect with what a record says of variables, if it says that they are new
abbrev pub with_said_vars : State → Option (List ℕ) → EffectValue → EffectValue
with_said_vars s None effect = effect
with_said_vars s (Some text) effect =
    with_vars_or (session_in effect.sid s.sessions).vars (vars_of text) effect

-- the functions, aliases and options of a session as the bytes of a file: another text stands for
-- one that is too long
unfoldable pub shell_bytes : List ℕ → List ℕ
shell_bytes text =
    if nat_le (length text) file_limit then text
    else opaque (codes "the text of a shell") (encode_lower (sha256 text) ∷ [])

-- an effect with the functions, aliases and options of its session, if they are new
abbrev pub with_shell : Option (List ℕ) → EffectValue → EffectValue
with_shell None effect = effect
with_shell (Some text) effect =
    with_cell (cells.At (shell_path effect.sid)) (values.Node (File (shell_bytes text))) effect

-- ---- lines

-- the number of a line's session; that of nobody's lines is 0
abbrev pub session_number : Owner → ℕ
session_number owners.Nobody = 0
session_number (owners.Line name) = name.session

abbrev pub end_in : Event → Option End
end_in (events.Start start) = None
end_in (events.Begin begin) = None
end_in (events.End end) = Some end
end_in (events.Exit exit) = None

-- how a line ended, if it did
abbrev pub ending : Extent → Event → Option End
ending extents.Whole event = end_in event
ending extents.Part event = None
ending extents.CutOff event = None

-- the status of a session after a line: what it was, if the line hasn't ended
abbrev pub status_by : ℕ → Option End → ℕ
status_by before None = before
status_by before (Some end) = end.status

-- What is known of a session, and of its directory by its name, once a line of it has ended.
abbrev pub with_ending : State → List ℕ → Option End → EffectValue → EffectValue
with_ending s name None effect = effect
with_ending s name (Some end) effect =
    with_shell end.shell (with_said_vars s end.variables (with_directory s name effect))

abbrev pub effect_by : Held → State → ℕ → Option End → LineValue → EffectValue
effect_by held s sid end line =
    with_ending s line.shown.directory end
    (with_nodes held line.seen.changes
    (status_alone sid (status_by (session_in sid s.sessions).status end)))

-- what a line left, over the state before it
unfoldable pub line_effect : Held → State → LineValue → EffectValue
line_effect held s line =
    effect_by held s (session_number line.owner) (ending line.extent line.shown.event) line
