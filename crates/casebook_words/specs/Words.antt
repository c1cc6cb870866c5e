-- Paths, queries and answers in words.
use Rattle.std.specs.Prelude.{ℕ, ◌==◌, List, [], ◌++◌, codes, decimal, length, if◌then◌else◌}
use Rattle.std.specs.Prelude.{Some, None}
use Rattle.casebook_opaque.specs.Opaque.{is_opaque, stands_for}
use Rattle.casebook_text.specs.SafeLine.{word_bytes}
use Rattle.retro_tree.specs.Path.{PathValue, is_root, slashed}
use Rattle.retro_tree.specs.Node.{is_present}
use Rattle.retro_tree.specs.declared.answer.Answer.{Answer}
use Rattle.retro_tree.specs.declared.answer.Answer.TheVariants as answers
use Rattle.retro_tree.specs.declared.ask.Ask.{Ask}
use Rattle.retro_tree.specs.declared.ask.Ask.TheVariants as asks
use Rattle.retro_tree.specs.declared.change.Change.{Change}
use Rattle.retro_tree.specs.declared.change.Change.TheVariants as changes
use Rattle.retro_tree.specs.declared.kind.Kind.{Kind}
use Rattle.retro_tree.specs.declared.kind.Kind.TheVariants as kinds
use Rattle.retro_tree.specs.declared.node.Node.{Node}
use Rattle.retro_tree.specs.declared.node.Node.TheVariants as nodes
use Rattle.retro_tree.specs.declared.note.Note.{Note}
use Rattle.retro_tree.specs.declared.note.Note.TheVariants as notes
use Rattle.retro_tree.specs.declared.permit.Permit.{Permit}
use Rattle.retro_tree.specs.declared.permit.Permit.TheVariants as permits
use Rattle.retro_tree.specs.declared.user.User.{User}
use Rattle.casebook_words.specs.Cut.{cut_words}
use Rattle.casebook_words.specs.Lines.{lines_of}

-- how many bytes of a value are shown
abbrev pub value_limit : ℕ
value_limit = 29

-- a path, whose spaces are shown by their code
unfoldable pub path_words : PathValue → List ℕ
path_words path = if is_root path then codes "/" else word_bytes (slashed path)

-- how many there are of something: '1 line', '2 lines'
unfoldable pub count_words : List ℕ → ℕ → List ℕ
count_words noun n = decimal n ++ codes " " ++ noun ++ (if n == 1 then [] else codes "s")

-- ---- answers

unfoldable pub kind_words : Kind → List ℕ
kind_words kinds.Missing = codes "missing"
kind_words kinds.Dir = codes "a directory"
kind_words kinds.File = codes "a file"

unfoldable pub permit_words : Permit → List ℕ
permit_words permits.Yes = codes "yes"
permit_words permits.NoParent = codes "no, its directory is missing"
permit_words permits.NotDir = codes "no, it would be below a file"
permit_words permits.IsDir = codes "no, it is a directory"
permit_words permits.TooLarge = codes "no, it would be too large"

-- how many bytes are shown of what a file stands for
abbrev pub opaque_limit : ℕ
opaque_limit = 40

-- what a file stands for
unfoldable pub opaque_words : List ℕ → List ℕ
opaque_words bytes = codes "not kept: " ++ cut_words opaque_limit (stands_for bytes)

-- how many lines and bytes a file has
unfoldable pub size_words : List ℕ → List ℕ
size_words bytes =
    count_words (codes "line") (length (lines_of bytes)) ++ codes ", "
    ++ count_words (codes "byte") (length bytes)

-- of a file how large it is, or what it stands for
unfoldable pub node_words : Node → List ℕ
node_words nodes.Missing = codes "no such file"
node_words nodes.Dir = codes "a directory"
node_words (nodes.File bytes) = if is_opaque bytes then opaque_words bytes else size_words bytes

unfoldable pub user_words : User → List ℕ
user_words user =
    codes "number " ++ decimal user.number ++ codes ", home " ++ cut_words value_limit user.home

unfoldable pub answer_words : Answer → List ℕ
answer_words (answers.Kind kind) = kind_words kind
answer_words (answers.Bytes node) = node_words node
answer_words (answers.Names (Some names)) = count_words (codes "name") (length names)
answer_words (answers.Names None) = codes "no directory"
answer_words (answers.CanWrite permit) = permit_words permit
answer_words (answers.User (Some user)) = user_words user
answer_words (answers.User None) = codes "no such user"
answer_words (answers.Var (Some text)) = cut_words value_limit text
answer_words (answers.Var None) = codes "not set"
answer_words (answers.Cwd path) = path_words path
answer_words (answers.Status status) = decimal status

-- ---- queries

unfoldable pub query_words : Ask → List ℕ
query_words (asks.Kind path) = codes "looked at " ++ path_words path
query_words (asks.Bytes path) = codes "read " ++ path_words path
query_words (asks.Names path) = codes "listed " ++ path_words path
query_words (asks.CanWrite path size) = codes "could write " ++ path_words path
query_words (asks.User name) = codes "looked up user " ++ cut_words value_limit name
query_words (asks.VarOf session name) = codes "variable " ++ word_bytes name
query_words (asks.CwdOf session) = codes "directory"
query_words (asks.StatusOf session) = codes "status"

-- ---- changes

unfoldable pub placed_words : PathValue → Node → List ℕ
placed_words path node = codes "put " ++ path_words path ++ codes ": " ++ node_words node

-- a missing node removes what is at the path
unfoldable pub put_words : PathValue → Node → List ℕ
put_words path node =
    if is_present node then placed_words path node else codes "removed " ++ path_words path

unfoldable pub variable_words : List ℕ → List ℕ → List ℕ
variable_words name text =
    codes "set variable " ++ word_bytes name ++ codes ": " ++ cut_words value_limit text

unfoldable pub change_words : Change → List ℕ
change_words (changes.Put path node) = put_words path node
change_words (changes.Grow path bytes) =
    codes "appended to " ++ path_words path ++ codes ": " ++ count_words (codes "byte") (length bytes)
change_words (changes.SetVar session name text) = variable_words name text
change_words (changes.SetCwd session path) = codes "set directory: " ++ path_words path
change_words (changes.SetStatus session status) = codes "set status: " ++ decimal status

-- ---- notes

unfoldable pub note_words : Note → List ℕ
note_words (notes.Asked ask answer) = query_words ask ++ codes ": " ++ answer_words answer
note_words (notes.Made change) = change_words change
