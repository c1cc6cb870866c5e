-- The variables of a session, as a state has them.
use Rattle.std.specs.Prelude.{ℕ, ◌&&◌, Bool, true, false, not, List, [], ◌∷◌, codes, length, nat_le}
use Rattle.std.specs.Prelude.{Option, Some, None, Result, Ok, Err, if◌then◌else◌}
use Rattle.std.specs.FinMap as finmap
use Rattle.std.specs.Str.{is_utf8}
use Rattle.hex.specs.Hex.{encode_lower}
use Rattle.sha2.specs.Sha256.{sha256}
use Rattle.retro_path.specs.Order.{text_cmp, text_eq}
use Rattle.retro_path.specs.VarName.{is_var_name}
use Rattle.retro_tree.specs.Session.{value_limit}
use Rattle.retro_tree.specs.declared.cell.Cell.{Cell}
use Rattle.retro_tree.specs.declared.cell.Cell.TheVariants as cells
use Rattle.retro_tree.specs.declared.value.Value.{Value}
use Rattle.retro_tree.specs.declared.value.Value.TheVariants as values
use Rattle.casebook_declare.specs.Texts.{variables_of}
use Rattle.casebook_declare.specs.declared.declare_error.DeclareError.{DeclareError}
use Rattle.casebook_declare.specs.declared.variable.Variable.{Variable}
use Rattle.casebook_import.specs.Opaque.{opaque}

abbrev pub Vars : Type 0
Vars = finmap.FinMap text_cmp (List ℕ)

-- A value as a text: another text stands for one that isn't UTF-8 or is too long.
unfoldable pub value_text : List ℕ → List ℕ
value_text value =
    if nat_le (length value) value_limit && is_utf8 value then value
    else opaque (codes "a value") (encode_lower (sha256 value) ∷ [])

-- variables with one more, unless no line of Retro's shell can assign it
abbrev pub with_variable : Variable → Vars → Vars
with_variable v vars =
    if is_var_name v.name then finmap.insert vars v.name (value_text v.value) else vars

-- of two variables of one name the later one counts
abbrev pub with_variables : List Variable → Vars → Vars
with_variables [] vars = vars
with_variables (v ∷ vs) vars = with_variables vs (with_variable v vars)

abbrev pub vars_by : Result (List Variable) DeclareError → Option Vars
vars_by (Ok vs) = Some (with_variables vs finmap.empty)
vars_by (Err error) = None

-- the variables that a text of `declare -p` says, or None if no bash prints it
unfoldable pub vars_of : List ℕ → Option Vars
vars_of text = vars_by (variables_of text)

-- ---- what changes

abbrev pub is_value : Option (List ℕ) → List ℕ → Bool
is_value None text = false
is_value (Some old) text = text_eq old text

abbrev pub var_cell : ℕ → List ℕ → List ℕ → Cell × Value
var_cell sid name text = (cells.Var sid name, values.Text (Some text))

-- the cell of a variable, if its value is another one than before
abbrev pub changed_var : ℕ → Vars → List ℕ × List ℕ → Option (Cell × Value)
changed_var sid old v =
    if is_value (finmap.get old v.0) v.1 then None else Some (var_cell sid v.0 v.1)

abbrev pub is_missing : Option (List ℕ) → Bool
is_missing None = true
is_missing (Some text) = false

-- the cell of a variable that is unset: it counts as empty, so one that is empty stays as it is
abbrev pub unset_var : ℕ → Vars → List ℕ × List ℕ → Option (Cell × Value)
unset_var sid new v =
    if is_missing (finmap.get new v.0) && not (text_eq v.1 []) then Some (var_cell sid v.0 [])
    else None
