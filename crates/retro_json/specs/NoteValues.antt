-- The JSON values that the notes of a line are written as, with the line's session understood.
use Rattle.std.specs.Prelude.{List, [], ◌∷◌, map, Option, Some, None, codes}
use Rattle.serde_json.specs.Data.{Data, null, string}
use Rattle.retro_tree.specs.Path.{PathValue}
use Rattle.retro_tree.specs.declared.ask.Ask.{Ask}
use Rattle.retro_tree.specs.declared.ask.Ask.TheVariants as asks
use Rattle.retro_tree.specs.declared.answer.Answer.{Answer}
use Rattle.retro_tree.specs.declared.answer.Answer.TheVariants as answers
use Rattle.retro_tree.specs.declared.change.Change.{Change}
use Rattle.retro_tree.specs.declared.change.Change.TheVariants as changes
use Rattle.retro_tree.specs.declared.kind.Kind.{Kind}
use Rattle.retro_tree.specs.declared.kind.Kind.TheVariants as kinds
use Rattle.retro_tree.specs.declared.node.Node.{Node}
use Rattle.retro_tree.specs.declared.node.Node.TheVariants as nodes
use Rattle.retro_tree.specs.declared.note.Note.{Note}
use Rattle.retro_tree.specs.declared.note.Note.TheVariants.{Asked, Made}
use Rattle.retro_tree.specs.declared.permit.Permit.{Permit}
use Rattle.retro_tree.specs.declared.permit.Permit.TheVariants as permits
use Rattle.retro_tree.specs.declared.user.User.{User}
use Rattle.retro_json.specs.Shape.{Text}
use Rattle.retro_json.specs.Values.{array_of, number_data, hex_data, path_text}

-- ---- what notes are made of

abbrev pub path_data : PathValue → Data
path_data path = string (path_text path)

abbrev pub kind_text : Kind → Text
kind_text kinds.Missing = codes "missing"
kind_text kinds.Dir = codes "dir"
kind_text kinds.File = codes "file"

abbrev pub permit_text : Permit → Text
permit_text permits.Yes = codes "yes"
permit_text permits.NoParent = codes "noparent"
permit_text permits.NotDir = codes "notdir"
permit_text permits.IsDir = codes "isdir"
permit_text permits.TooLarge = codes "toolarge"

-- `[]` for a missing node, `["d"]` and `["f","hex"]`
unfoldable pub node_data : Node → Data
node_data nodes.Missing = array_of []
node_data nodes.Dir = array_of (string (codes "d") ∷ [])
node_data (nodes.File bytes) = array_of (string (codes "f") ∷ hex_data bytes ∷ [])

-- the names in their order, or `null`
unfoldable pub listing_data : Option (List Text) → Data
listing_data None = null
listing_data (Some names) = array_of (map string names)

-- `[number,home]`, or `null`
unfoldable pub user_data : Option User → Data
user_data None = null
user_data (Some user) = array_of (number_data user.number ∷ string user.home ∷ [])

-- a variable's value, or `null`
abbrev pub value_data : Option Text → Data
value_data None = null
value_data (Some value) = string value

-- ---- queries with their answers

unfoldable pub answer_data : Answer → Data
answer_data (answers.Kind kind) = string (kind_text kind)
answer_data (answers.Bytes node) = node_data node
answer_data (answers.Names names) = listing_data names
answer_data (answers.CanWrite permit) = string (permit_text permit)
answer_data (answers.User user) = user_data user
answer_data (answers.Var value) = value_data value
answer_data (answers.Cwd path) = path_data path
answer_data (answers.Status status) = number_data status

-- the query's tag and fields, and the answer; in a recording the answer is of the query's kind
unfoldable pub asked_data : Ask → Data → Data
asked_data (asks.Kind path) answer = array_of (string (codes "kind") ∷ path_data path ∷ answer ∷ [])
asked_data (asks.Bytes path) answer = array_of (string (codes "bytes") ∷ path_data path ∷ answer ∷ [])
asked_data (asks.Names path) answer = array_of (string (codes "names") ∷ path_data path ∷ answer ∷ [])
asked_data (asks.CanWrite path more) answer =
    array_of (string (codes "canwrite") ∷ path_data path ∷ number_data more ∷ answer ∷ [])
asked_data (asks.User name) answer = array_of (string (codes "user") ∷ string name ∷ answer ∷ [])
asked_data (asks.VarOf sid name) answer = array_of (string (codes "var") ∷ string name ∷ answer ∷ [])
asked_data (asks.CwdOf sid) answer = array_of (string (codes "cwd") ∷ answer ∷ [])
asked_data (asks.StatusOf sid) answer = array_of (string (codes "status") ∷ answer ∷ [])

-- ---- changes

unfoldable pub change_data : Change → Data
change_data (changes.Put path node) = array_of (string (codes "put") ∷ path_data path ∷ node_data node ∷ [])
change_data (changes.Grow path bytes) = array_of (string (codes "grow") ∷ path_data path ∷ hex_data bytes ∷ [])
change_data (changes.SetVar sid name value) =
    array_of (string (codes "setvar") ∷ string name ∷ string value ∷ [])
change_data (changes.SetCwd sid path) = array_of (string (codes "setcwd") ∷ path_data path ∷ [])
change_data (changes.SetStatus sid status) = array_of (string (codes "setstatus") ∷ number_data status ∷ [])

-- ---- notes

abbrev pub note_data : Note → Data
note_data (Asked ask answer) = asked_data ask (answer_data answer)
note_data (Made change) = change_data change

unfoldable pub notes_data : List Note → Data
notes_data notes = array_of (map note_data notes)
