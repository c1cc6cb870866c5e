-- A log has no float, and nests few arrays.
use Rattle.std.proofs.Common.{◌≡◌, ℕ, ◌≤◌, List, [], ◌∷◌, map, filter, false, Option, Some, None, refl, arith}
use Rattle.std.specs.FinMap as map
use Rattle.serde_json.specs.Data.{Data, string, depth, items_depth}
use Rattle.serde_json.specs.Read.{max_depth}
use Rattle.serde_json.specs.View.{items_of}
use Rattle.serde_json.specs.Written.{has_float}
use Rattle.std.specs.Ordering.{nat_cmp}
use Rattle.retro_tree.specs.Order.{text_cmp}
use Rattle.retro_tree.specs.Path.{PathValue}
use Rattle.retro_tree.specs.Tree.{Tree}
use Rattle.retro_tree.specs.declared.ask.Ask.{Ask}
use Rattle.retro_tree.specs.declared.ask.Ask.TheVariants as asks
use Rattle.retro_tree.specs.declared.answer.Answer.{Answer}
use Rattle.retro_tree.specs.declared.answer.Answer.TheVariants as answers
use Rattle.retro_tree.specs.declared.change.Change.{Change}
use Rattle.retro_tree.specs.declared.change.Change.TheVariants as changes
use Rattle.retro_tree.specs.declared.entry.Entry.{Entry}
use Rattle.retro_tree.specs.declared.entry.Entry.TheVariants.{Dir, File}
use Rattle.retro_tree.specs.declared.node.Node.{Node}
use Rattle.retro_tree.specs.declared.node.Node.TheVariants as nodes
use Rattle.retro_tree.specs.declared.note.Note.{Note}
use Rattle.retro_tree.specs.declared.note.Note.TheVariants.{Asked, Made}
use Rattle.retro_tree.specs.declared.session.Session.{Session}
use Rattle.retro_tree.specs.declared.user.User.{User}
use Rattle.retro_keep.specs.Recording.{RecordingValue}
use Rattle.retro_keep.specs.declared.noted.Noted.{Noted}
use Rattle.retro_json.specs.Shape.{Text}
use Rattle.retro_json.specs.Values.{path_text, entry_data, row_data, is_listed, tree_data, var_data, vars_data}
use Rattle.retro_json.specs.Values.{session_data, sessions_data}
use Rattle.retro_json.specs.NoteValues.{node_data, listing_data, user_data, value_data, answer_data, asked_data}
use Rattle.retro_json.specs.NoteValues.{change_data, note_data, notes_data}
use Rattle.retro_log.specs.LogText.{line_data, lines_data, log_data}
use Rattle.retro_json.proofs.Floats.{array_float, tree_float, sessions_float}

-- ---- no float

node_float : (node : Node) → has_float (node_data node) ≡ false
unfolding node_data
node_float nodes.Missing = refl
node_float nodes.Dir = refl
node_float (nodes.File bytes) = refl

listing_float : (names : Option (List Text)) → has_float (listing_data names) ≡ false
unfolding listing_data
listing_float None = refl
listing_float (Some names) = array_float string (λ name. refl) names

user_float : (user : Option User) → has_float (user_data user) ≡ false
unfolding user_data
user_float None = refl
user_float (Some user) = refl

value_float : (value : Option Text) → has_float (value_data value) ≡ false
value_float None = refl
value_float (Some value) = refl

answer_float : (answer : Answer) → has_float (answer_data answer) ≡ false
unfolding answer_data
answer_float (answers.Kind kind) = refl
answer_float (answers.Bytes node) = node_float node
answer_float (answers.Names names) = listing_float names
answer_float (answers.CanWrite permit) = refl
answer_float (answers.User user) = user_float user
answer_float (answers.Var value) = value_float value
answer_float (answers.Cwd path) = refl
answer_float (answers.Status status) = refl

asked_float : (ask : Ask) (d : Data) → has_float d ≡ false → has_float (asked_data ask d) ≡ false
unfolding asked_data
asked_float (asks.Kind path) d h = rw h refl
asked_float (asks.Bytes path) d h = rw h refl
asked_float (asks.Names path) d h = rw h refl
asked_float (asks.CanWrite path more) d h = rw h refl
asked_float (asks.User name) d h = rw h refl
asked_float (asks.VarOf sid name) d h = rw h refl
asked_float (asks.CwdOf sid) d h = rw h refl
asked_float (asks.StatusOf sid) d h = rw h refl

change_float : (change : Change) → has_float (change_data change) ≡ false
unfolding change_data
change_float (changes.Put path node) = rw (node_float node) refl
change_float (changes.Grow path bytes) = refl
change_float (changes.SetVar sid name value) = refl
change_float (changes.SetCwd sid path) = refl
change_float (changes.SetStatus sid status) = refl

note_float : (note : Note) → has_float (note_data note) ≡ false
note_float (Asked ask answer) = asked_float ask (answer_data answer) (answer_float answer)
note_float (Made change) = change_float change

notes_float : (notes : List Note) → has_float (notes_data notes) ≡ false
unfolding notes_data
notes_float notes = array_float note_data note_float notes

pub line_float : (l : ℕ × Noted) → has_float (line_data l) ≡ false
unfolding line_data
line_float l = rw (notes_float l.1.notes) refl

lines_float : (lines : List (ℕ × Noted)) → has_float (lines_data lines) ≡ false
unfolding lines_data
lines_float lines = array_float line_data line_float lines

pub log_float : (r : RecordingValue) → has_float (log_data r) ≡ false
unfolding log_data
log_float r = rw (lines_float r.lines, sessions_float r.first.sessions, tree_float r.first.tree) refl

-- ---- few arrays

items_low : {X : Type 0} (f : X → Data) (n : ℕ) → ((x : X) → depth (f x) ≤ n) → (xs : List X)
    → items_depth (items_of (map f xs)) ≤ n
items_low f n one [] = omega arith
items_low f n one (x ∷ xs) = let a = one x in let b = items_low f n one xs in omega (arith, a, b)

row_low : (e : PathValue × Entry) → depth (row_data e) ≤ 1
unfolding row_data
row_low e = entry_low (path_text e.0) e.1
  where
    entry_low : (path : Text) (entry : Entry) → depth (entry_data path entry) ≤ 1
    entry_low path Dir = omega arith
    entry_low path (File bytes) = omega arith

pub tree_low : (tree : Tree) → depth (tree_data tree) ≤ 2
unfolding tree_data
tree_low tree = let a = items_low row_data 1 row_low (filter is_listed (map.entries tree)) in omega (arith, a)

vars_low : (vars : map.FinMap text_cmp Text) → depth (vars_data vars) ≤ 2
unfolding vars_data
vars_low vars = let a = items_low var_data 1 (λ e. omega arith) (map.entries vars) in omega (arith, a)

session_low : (e : ℕ × Session) → depth (session_data e) ≤ 3
unfolding session_data
session_low e = let a = vars_low e.1.vars in omega (arith, a)

pub sessions_low : (sessions : map.FinMap nat_cmp Session) → depth (sessions_data sessions) ≤ 4
unfolding sessions_data
sessions_low sessions = let a = items_low session_data 3 session_low (map.entries sessions) in omega (arith, a)

node_low : (node : Node) → depth (node_data node) ≤ 1
unfolding node_data
node_low nodes.Missing = omega arith
node_low nodes.Dir = omega arith
node_low (nodes.File bytes) = omega arith

listing_low : (names : Option (List Text)) → depth (listing_data names) ≤ 1
unfolding listing_data
listing_low None = omega arith
listing_low (Some names) = let a = items_low string 0 (λ name. omega arith) names in omega (arith, a)

user_low : (user : Option User) → depth (user_data user) ≤ 1
unfolding user_data
user_low None = omega arith
user_low (Some user) = omega arith

value_low : (value : Option Text) → depth (value_data value) ≤ 1
value_low None = omega arith
value_low (Some value) = omega arith

answer_low : (answer : Answer) → depth (answer_data answer) ≤ 1
unfolding answer_data
answer_low (answers.Kind kind) = omega arith
answer_low (answers.Bytes node) = node_low node
answer_low (answers.Names names) = listing_low names
answer_low (answers.CanWrite permit) = omega arith
answer_low (answers.User user) = user_low user
answer_low (answers.Var value) = value_low value
answer_low (answers.Cwd path) = omega arith
answer_low (answers.Status status) = omega arith

asked_low : (ask : Ask) (d : Data) → depth d ≤ 1 → depth (asked_data ask d) ≤ 2
unfolding asked_data
asked_low (asks.Kind path) d h = omega (arith, h)
asked_low (asks.Bytes path) d h = omega (arith, h)
asked_low (asks.Names path) d h = omega (arith, h)
asked_low (asks.CanWrite path more) d h = omega (arith, h)
asked_low (asks.User name) d h = omega (arith, h)
asked_low (asks.VarOf sid name) d h = omega (arith, h)
asked_low (asks.CwdOf sid) d h = omega (arith, h)
asked_low (asks.StatusOf sid) d h = omega (arith, h)

change_low : (change : Change) → depth (change_data change) ≤ 2
unfolding change_data
change_low (changes.Put path node) = let a = node_low node in omega (arith, a)
change_low (changes.Grow path bytes) = omega arith
change_low (changes.SetVar sid name value) = omega arith
change_low (changes.SetCwd sid path) = omega arith
change_low (changes.SetStatus sid status) = omega arith

note_low : (note : Note) → depth (note_data note) ≤ 2
note_low (Asked ask answer) = asked_low ask (answer_data answer) (answer_low answer)
note_low (Made change) = change_low change

notes_low : (notes : List Note) → depth (notes_data notes) ≤ 3
unfolding notes_data
notes_low notes = let a = items_low note_data 2 note_low notes in omega (arith, a)

pub line_low : (l : ℕ × Noted) → depth (line_data l) ≤ 4
unfolding line_data
line_low l = let a = notes_low l.1.notes in omega (arith, a)

lines_low : (lines : List (ℕ × Noted)) → depth (lines_data lines) ≤ 5
unfolding lines_data
lines_low lines = let a = items_low line_data 4 line_low lines in omega (arith, a)

pub log_low : (r : RecordingValue) → depth (log_data r) ≤ max_depth
unfolding log_data
log_low r =
    let a = lines_low r.lines in
    let b = sessions_low r.first.sessions in
    let c = tree_low r.first.tree in
    omega (arith, a, b, c)
