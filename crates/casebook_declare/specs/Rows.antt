-- A row of `declare -p`, and what it says: `declare -FLAGS NAME=VALUE`.
use Rattle.std.specs.Prelude.{ℕ, ◌==◌, ◌||◌, Bool, false, true, List, length, codes}
use Rattle.std.specs.Prelude.{Option, Some, None, option_and_then, option_map, if◌then◌else◌}
use Rattle.retro_path.specs.Order.{text_eq}
use Rattle.retro_path.specs.VarName.{is_shell_name}
use Rattle.casebook_declare.specs.Arrays.{is_array_value}
use Rattle.casebook_declare.specs.Attributes.{attributes_of}
use Rattle.casebook_declare.specs.Bytes.{blank, equals}
use Rattle.casebook_declare.specs.Parts.{after, cut_at}
use Rattle.casebook_declare.specs.Quoted.{Said, quoted}
use Rattle.casebook_declare.specs.declared.attributes.Attributes.{Attributes}
use Rattle.casebook_declare.specs.declared.attributes.Kind.{Kind}
use Rattle.casebook_declare.specs.declared.attributes.Kind.TheVariants as kinds
use Rattle.casebook_declare.specs.declared.row.Row.{Row}
use Rattle.casebook_declare.specs.declared.row.Row.TheVariants as rows
use Rattle.casebook_declare.specs.declared.variable.Variable.{Variable}

-- the name that a text is
unfoldable pub shell_name_of : List ℕ → Option (List ℕ)
shell_name_of text = if is_shell_name text then Some text else None

-- The name of a variable without a value. In a function that has `local -` the shell's options are
-- printed as a variable `-`.
abbrev pub is_unset_name : List ℕ → Bool
is_unset_name name = is_shell_name name || text_eq name (codes "-")

-- a value with nothing after it
abbrev pub whole : Said → Option (List ℕ)
whole said = if length said.rest == 0 then Some said.value else None

-- the value that a text is
unfoldable pub value_of : List ℕ → Option (List ℕ)
value_of text = option_and_then whole (quoted text)

abbrev pub variable : Attributes → List ℕ → List ℕ → Variable
variable attributes name value = record {
  name = name;
  value = value;
  is_exported = attributes.is_exported;
  assignment = attributes.assignment;
}

abbrev pub array_row : Bool → Option Row
array_row is_array = if is_array then Some rows.Nothing else None

-- what a value says of the variable with a name
abbrev pub said_by_kind : Kind → Attributes → List ℕ → List ℕ → Option Row
said_by_kind kinds.Indexed attributes name text = array_row (is_array_value false text)
said_by_kind kinds.Keyed attributes name text = array_row (is_array_value true text)
said_by_kind kinds.Reference attributes name text =
    option_map (λ value. rows.Nothing) (value_of text)
said_by_kind kinds.Value attributes name text =
    option_map (λ value. rows.Says (variable attributes name value)) (value_of text)

-- what a row says after its flags, by the texts before and after the `=`, if it has one
abbrev pub said_of : Attributes → List ℕ → Option (List ℕ × List ℕ) → Option Row
said_of attributes text None = if is_unset_name text then Some rows.Nothing else None
said_of attributes text (Some cut) =
    if is_shell_name cut.0 then said_by_kind attributes.kind attributes cut.0 cut.1 else None

-- what a row says, by its flags and what follows them
unfoldable pub flagged_row : List ℕ × List ℕ → Option Row
flagged_row cut =
    option_and_then (λ attributes. said_of attributes cut.1 (cut_at equals cut.1))
    (attributes_of cut.0)

-- what a row says, or None if it isn't one
unfoldable pub row_of : List ℕ → Option Row
row_of row =
    option_and_then flagged_row (option_and_then (cut_at blank) (after (codes "declare -") row))
