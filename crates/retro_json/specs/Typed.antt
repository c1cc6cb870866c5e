-- What the types of the program guarantee, although the values in definitions don't say it: bytes
-- are below 2^8, numbers are below 2^32, the names of a path are names of files, and a variable has
-- a name that a line may assign. The writers' contracts state this of what was written. The proofs
-- that a log is read back need it.
use Rattle.std.specs.Prelude.{ℕ, ◌^◌, List, Bool, true, ◌&&◌, nat_lt, filter, Option, Some, None}
use Rattle.std.specs.List.{list_all}
use Rattle.std.specs.Ordering.{nat_cmp}
use Rattle.std.specs.FinMap as map
use Rattle.retro_tree.specs.Name.{is_name}
use Rattle.retro_tree.specs.Order.{text_cmp}
use Rattle.retro_tree.specs.Path.{PathValue}
use Rattle.retro_tree.specs.Tree.{Tree}
use Rattle.retro_tree.specs.VarName.{is_var_name}
use Rattle.retro_tree.specs.declared.ask.Ask.{Ask}
use Rattle.retro_tree.specs.declared.ask.Ask.TheVariants as asks
use Rattle.retro_tree.specs.declared.answer.Answer.{Answer}
use Rattle.retro_tree.specs.declared.answer.Answer.TheVariants as answers
use Rattle.retro_tree.specs.declared.change.Change.{Change}
use Rattle.retro_tree.specs.declared.change.Change.TheVariants as changes
use Rattle.retro_tree.specs.declared.entry.Entry.{Entry}
use Rattle.retro_tree.specs.declared.entry.Entry.TheVariants.{Dir, File}
use Rattle.retro_tree.specs.declared.node.Node.{Node}
use Rattle.retro_tree.specs.declared.node.Node.TheVariants as nodes
use Rattle.retro_tree.specs.declared.note.Note.{Note}
use Rattle.retro_tree.specs.declared.note.Note.TheVariants.{Asked, Made}
use Rattle.retro_tree.specs.declared.session.Session.{Session}
use Rattle.retro_tree.specs.declared.user.User.{User}
use Rattle.retro_keep.specs.Recording.{RecordingValue}
use Rattle.retro_keep.specs.declared.noted.Noted.{Noted}
use Rattle.retro_json.specs.Shape.{Text}
use Rattle.retro_json.specs.Values.{is_listed}

abbrev pub are_bytes : List ℕ → Bool
are_bytes bytes = list_all (λ b. nat_lt b (2 ^ 8)) bytes

abbrev pub is_u32 : ℕ → Bool
is_u32 n = nat_lt n (2 ^ 32)

-- the names of a path, or of a listing
abbrev pub are_names : List Text → Bool
are_names names = list_all is_name names

abbrev pub file_typed : Entry → Bool
file_typed Dir = true
file_typed (File bytes) = are_bytes bytes

abbrev pub entry_typed : PathValue × Entry → Bool
entry_typed e = file_typed e.1

-- the bytes of all files
unfoldable pub tree_typed : Tree → Bool
tree_typed tree = list_all entry_typed (filter is_listed (map.entries tree))

abbrev pub var_typed : Text × Text → Bool
var_typed e = is_var_name e.0

unfoldable pub vars_typed : map.FinMap text_cmp Text → Bool
vars_typed vars = list_all var_typed (map.entries vars)

unfoldable pub session_typed : ℕ × Session → Bool
session_typed e = is_u32 e.0 && (are_names e.1.cwd && vars_typed e.1.vars)

unfoldable pub sessions_typed : map.FinMap nat_cmp Session → Bool
sessions_typed sessions = list_all session_typed (map.entries sessions)

-- ---- notes

abbrev pub is_u8 : ℕ → Bool
is_u8 n = nat_lt n (2 ^ 8)

abbrev pub node_typed : Node → Bool
node_typed nodes.Missing = true
node_typed nodes.Dir = true
node_typed (nodes.File bytes) = are_bytes bytes

abbrev pub listing_typed : Option (List Text) → Bool
listing_typed None = true
listing_typed (Some names) = are_names names

abbrev pub user_typed : Option User → Bool
user_typed None = true
user_typed (Some user) = is_u32 user.number

abbrev pub answer_typed : Answer → Bool
answer_typed (answers.Bytes node) = node_typed node
answer_typed (answers.Names names) = listing_typed names
answer_typed (answers.User user) = user_typed user
answer_typed (answers.Cwd path) = are_names path
answer_typed (answers.Status status) = is_u8 status
answer_typed _ = true

abbrev pub ask_typed : Ask → Bool
ask_typed (asks.Kind path) = are_names path
ask_typed (asks.Bytes path) = are_names path
ask_typed (asks.Names path) = are_names path
ask_typed (asks.CanWrite path more) = are_names path && is_u32 more
ask_typed (asks.VarOf sid name) = is_var_name name
ask_typed _ = true

abbrev pub change_typed : Change → Bool
change_typed (changes.Put path node) = are_names path && node_typed node
change_typed (changes.Grow path bytes) = are_names path && are_bytes bytes
change_typed (changes.SetVar sid name value) = is_var_name name
change_typed (changes.SetCwd sid path) = are_names path
change_typed (changes.SetStatus sid status) = is_u8 status

abbrev pub note_typed : Note → Bool
note_typed (Asked ask answer) = ask_typed ask && answer_typed answer
note_typed (Made change) = change_typed change

-- ---- recordings

unfoldable pub line_typed : ℕ × Noted → Bool
line_typed l =
    is_u32 l.0 && (is_u32 l.1.sid && (list_all note_typed l.1.notes && are_bytes l.1.output))

unfoldable pub recording_typed : RecordingValue → Bool
recording_typed r =
    is_u32 r.from
    && (tree_typed r.first.tree && (sessions_typed r.first.sessions && list_all line_typed r.lines))
