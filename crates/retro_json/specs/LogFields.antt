-- What the notes of a log are made of: paths, nodes, listings, users and variables.
use Rattle.std.specs.Prelude.{ℕ, List, [], ◌∷◌, length, Option, Some, None, Result, Ok, Err, is_some, ok_or}
use Rattle.std.specs.Prelude.{nat_le, bytes_eq, codes, if◌then◌else◌}
use Rattle.serde_json.specs.Data.{Data}
use Rattle.serde_json.specs.Find.{as_null}
use Rattle.retro_tree.specs.Path.{PathValue}
use Rattle.retro_tree.specs.VarName.{is_var_name}
use Rattle.retro_tree.specs.Node.{file_limit}
use Rattle.retro_tree.specs.Session.{value_limit}
use Rattle.retro_tree.specs.declared.kind.Kind.{Kind}
use Rattle.retro_tree.specs.declared.kind.Kind.TheVariants as kinds
use Rattle.retro_tree.specs.declared.node.Node.{Node}
use Rattle.retro_tree.specs.declared.node.Node.TheVariants as nodes
use Rattle.retro_tree.specs.declared.permit.Permit.{Permit}
use Rattle.retro_tree.specs.declared.permit.Permit.TheVariants as permits
use Rattle.retro_tree.specs.declared.user.User.{User}
use Rattle.retro_json.specs.declared.fault.Part.TheVariants.{Lines}
use Rattle.retro_json.specs.declared.fault.Refusal.{Refusal}
use Rattle.retro_json.specs.declared.fault.Refusal.TheVariants.{WrongShape, BadHex, OverLimit}
use Rattle.retro_json.specs.Steps.{◌>>=◌, guard}
use Rattle.retro_json.specs.Worst.{every}
use Rattle.retro_json.specs.Shape.{Text, cells, text_in, u32_in}
use Rattle.retro_json.specs.PathText.{is_written_name, is_short_name, path_in}
use Rattle.retro_json.specs.TreePart.{bytes_in}

abbrev pub wrong : {A : Type 0} → Result A Refusal
wrong = Err (WrongShape Lines)

-- `null` in place of a value says that there is none
abbrev pub or_null : {A : Type 0} → (Data → Result A Refusal) → Data → Result (Option A) Refusal
or_null field d =
    if is_some (as_null d) then Ok None
    else (do
      x ← field d
      Ok (Some x))

-- bytes, as hex digits of either case
abbrev pub hex_field : Data → Result (List ℕ) Refusal
hex_field d = do
  hex ← text_in Lines d
  ok_or (bytes_in hex) BadHex

abbrev pub path_field : Data → Result PathValue Refusal
path_field d = path_in Lines d

-- ---- listings

-- a name in a listing is written as a name in a path is
abbrev pub written_name : Data → Result Text Refusal
written_name d = do
  name ← text_in Lines d
  written ← guard (is_written_name name) (WrongShape Lines)
  Ok name

abbrev pub name_field : Data → Result Text Refusal
name_field d = do
  name ← written_name d
  short ← guard (is_short_name name) OverLimit
  Ok name

-- the names may be in any order, and a name may occur twice
unfoldable pub listing_field : Data → Result (List Text) Refusal
listing_field d = do
  items ← cells Lines d
  every name_field items

-- ---- kinds, nodes and permits

abbrev pub kind_named : Text → Result Kind Refusal
kind_named text =
    if bytes_eq text (codes "missing") then Ok kinds.Missing
    else if bytes_eq text (codes "dir") then Ok kinds.Dir
    else if bytes_eq text (codes "file") then Ok kinds.File
    else wrong

unfoldable pub kind_field : Data → Result Kind Refusal
kind_field d = do
  text ← text_in Lines d
  kind_named text

abbrev pub permit_named : Text → Result Permit Refusal
permit_named text =
    if bytes_eq text (codes "yes") then Ok permits.Yes
    else if bytes_eq text (codes "noparent") then Ok permits.NoParent
    else if bytes_eq text (codes "notdir") then Ok permits.NotDir
    else if bytes_eq text (codes "isdir") then Ok permits.IsDir
    else if bytes_eq text (codes "toolarge") then Ok permits.TooLarge
    else wrong

unfoldable pub permit_field : Data → Result Permit Refusal
permit_field d = do
  text ← text_in Lines d
  permit_named text

abbrev pub file_field : Data → Result Node Refusal
file_field d = do
  bytes ← hex_field d
  fits ← guard (nat_le (length bytes) file_limit) OverLimit
  Ok (nodes.File bytes)

-- `["d"]` and `["f","hex"]`
abbrev pub tagged_node : Text → List Data → Result Node Refusal
tagged_node tag [] = if bytes_eq tag (codes "d") then Ok nodes.Dir else wrong
tagged_node tag (h ∷ []) = if bytes_eq tag (codes "f") then file_field h else wrong
tagged_node tag _ = wrong

-- `[]` is a missing node
abbrev pub node_cells : List Data → Result Node Refusal
node_cells [] = Ok nodes.Missing
node_cells (t ∷ rest) = do
  tag ← text_in Lines t
  tagged_node tag rest

unfoldable pub node_field : Data → Result Node Refusal
node_field d = cells Lines d >>= node_cells

-- ---- users and variables

-- `[number,home]`
abbrev pub user_cells : List Data → Result User Refusal
user_cells (n ∷ h ∷ []) = do
  number ← u32_in Lines n
  home ← text_in Lines h
  Ok (record { number = number; home = home })
user_cells _ = wrong

unfoldable pub user_field : Data → Result User Refusal
user_field d = cells Lines d >>= user_cells

-- a name that a line may assign
abbrev pub var_field : Data → Result Text Refusal
var_field d = do
  name ← text_in Lines d
  assignable ← guard (is_var_name name) (WrongShape Lines)
  Ok name

abbrev pub value_field : Data → Result Text Refusal
value_field d = do
  value ← text_in Lines d
  fits ← guard (nat_le (length value) value_limit) OverLimit
  Ok value
