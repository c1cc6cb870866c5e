-- The needs of an observed line: the queries on whose answers it can depend. Each rule gives a list
-- of queries with a source; the needs are the queries of all rules, each once, with the answers of
-- the state in which the line began.
use Rattle.std.specs.Prelude.{ℕ, ◌==◌, ◌&&◌, Bool, not, List, [], ◌∷◌, ◌++◌, codes, flat_map}
use Rattle.std.specs.Prelude.{filter, length, map, nat_le, Option, Some, None, is_some}
use Rattle.std.specs.Prelude.{if◌then◌else◌}
use Rattle.std.specs.FinMap as finmap
use Rattle.std.specs.List.{filter_map, list_any}
use Rattle.std.specs.Option.{option_to_list}
use Rattle.retro_path.specs.Ascii.{nul, slash}
use Rattle.retro_path.specs.Path.{PathValue, below}
use Rattle.retro_tree.specs.Ask.{answer}
use Rattle.retro_tree.specs.Node.{bytes_in, is_dir}
use Rattle.retro_tree.specs.Session.{session_in}
use Rattle.retro_tree.specs.Tree.{node_in}
use Rattle.retro_tree.specs.declared.node.Node.{Node}
use Rattle.retro_tree.specs.declared.node.Node.TheVariants.{Missing, Dir, File}
use Rattle.retro_tree.specs.declared.note.Note.{Note}
use Rattle.retro_tree.specs.declared.note.Note.TheVariants.{Asked}
use Rattle.retro_tree.specs.declared.state.State.{State}
use Rattle.casebook_needs.specs.FirstOfEach.{first_of_each}
use Rattle.casebook_needs.specs.Line.{LineValue, touched}
use Rattle.casebook_needs.specs.Named.{is_home_word, named_path, paths_of}
use Rattle.casebook_needs.specs.Query.{ask_of, query_eq}
use Rattle.casebook_needs.specs.Variables.{names_status, variables_of}
use Rattle.casebook_needs.specs.Words.{words_of}
use Rattle.casebook_needs.specs.declared.effect.Effect.{Effect}
use Rattle.casebook_needs.specs.declared.effect.Effect.TheVariants.{Append, Other}
use Rattle.casebook_needs.specs.declared.need.Need.{Need}
use Rattle.casebook_needs.specs.declared.query.Query.{Query}
use Rattle.casebook_needs.specs.declared.query.Query.TheVariants as queries
use Rattle.casebook_needs.specs.declared.source.Source.{Source}
use Rattle.casebook_needs.specs.declared.source.Source.TheVariants as sources

-- the queries of the nodes at paths
abbrev pub nodes_at : List PathValue → Source → List (Query × Source)
nodes_at paths source = map (λ p. (queries.Bytes p, source)) paths

-- the queries of the names in directories
abbrev pub names_at : List PathValue → Source → List (Query × Source)
names_at paths source = map (λ p. (queries.Names p, source)) paths

-- ---- what was written

abbrev pub is_file : State → PathValue → Bool
is_file s p = is_some (bytes_in (node_in p s.tree))

-- the path of an effect, if it isn't an append and a file was there
abbrev pub overwritten_path : State → Effect → Option PathValue
overwritten_path s (Append p) = None
overwritten_path s (Other p) = if is_file s p then Some p else None

abbrev pub overwritten : State → LineValue → List PathValue
overwritten s line = filter_map (overwritten_path s) line.effects

-- what a line read, listed, and wrote other than by an append
abbrev pub trace_queries : State → LineValue → List (Query × Source)
trace_queries s line =
    nodes_at line.read sources.Read ++ names_at line.listed sources.Listed
    ++ nodes_at (overwritten s line) sources.Written

-- ---- what words name

-- the value of HOME in a session
unfoldable pub home_in : ℕ → State → Option (List ℕ)
home_in session s = finmap.get (session_in session s.sessions).vars (codes "HOME")

-- the paths that words of a line name
abbrev pub named : State → LineValue → List PathValue
named s line = paths_of line.directory (home_in line.session s) line.text

abbrev pub is_directory : State → PathValue → Bool
is_directory s p = is_dir (node_in p s.tree)

-- those of them that are directories
abbrev pub named_directories : State → LineValue → List PathValue
named_directories s line = filter (is_directory s) (named s line)

-- whether a path is one of some directories or below one
abbrev pub is_below_any : List PathValue → PathValue → Bool
is_below_any directories p = list_any (λ d. is_some (below d p)) directories

-- what a line touched below them
abbrev pub touched_below : State → LineValue → List PathValue
touched_below s line = filter (is_below_any (named_directories s line)) (touched line)

-- what words name; of directories their names too, and what the line touched below them
abbrev pub named_queries : State → LineValue → List (Query × Source)
named_queries s line =
    nodes_at (named s line) sources.Named ++ names_at (named_directories s line) sources.Named
    ++ nodes_at (touched_below s line) sources.Named

-- ---- what scripts name

-- the maximum size of a text that is searched for paths
abbrev pub script_limit : ℕ
script_limit = 65536

-- whether bytes are a text that is searched for paths: no more than the limit, and no NUL
abbrev pub is_script : List ℕ → Bool
is_script bytes = nat_le (length bytes) script_limit && not (list_any (λ b. b == nul) bytes)

abbrev pub has_slash : List ℕ → Bool
has_slash word = list_any (λ b. b == slash) word

-- the paths that words with a slash name in a text
unfoldable pub script_paths : PathValue → List ℕ → List PathValue
script_paths directory text = filter_map (named_path directory) (filter has_slash (words_of text))

-- the paths that a file names, if it is a script
abbrev pub paths_in_node : PathValue → Node → List PathValue
paths_in_node directory Missing = []
paths_in_node directory Dir = []
paths_in_node directory (File bytes) = if is_script bytes then script_paths directory bytes else []

-- the queries of the paths that a file names
abbrev pub queries_in_file : State → PathValue → PathValue → List (Query × Source)
queries_in_file s directory p =
    nodes_at (paths_in_node directory (node_in p s.tree)) (sources.InScript p)

-- what scripts name that a line read
abbrev pub script_queries : State → LineValue → List (Query × Source)
script_queries s line = flat_map (queries_in_file s line.directory) line.read

-- ---- variables

-- HOME, if a word has a tilde that stands for it
abbrev pub home_query : List ℕ → List (Query × Source)
home_query text =
    if list_any is_home_word (words_of text)
    then (queries.Var (codes "HOME"), sources.Variable) ∷ [] else []

abbrev pub status_query : List ℕ → List (Query × Source)
status_query text = if names_status text then (queries.Status, sources.Variable) ∷ [] else []

-- the variables and the status that a text names
abbrev pub variable_queries : List ℕ → List (Query × Source)
variable_queries text =
    map (λ name. (queries.Var name, sources.Variable)) (variables_of text)
    ++ home_query text ++ status_query text

-- ---- all rules

-- the session's directory, and the file with its functions, aliases and options
abbrev pub session_queries : LineValue → List (Query × Source)
session_queries line =
    (queries.Cwd, sources.Directory)
    ∷ nodes_at (option_to_list line.shell) sources.Shell

-- the queries of all rules, in order
unfoldable pub asked_of : State → LineValue → List (Query × Source)
asked_of s line =
    trace_queries s line ++ named_queries s line ++ script_queries s line
    ++ variable_queries line.text ++ session_queries line

-- whether two queries with sources are of the same query
abbrev pub same_query : Query × Source → Query × Source → Bool
same_query a b = query_eq a.0 b.0

-- a query with the answer of a state
abbrev pub need_of : ℕ → State → Query × Source → Need
need_of session s asked = record {
  ask = ask_of session asked.0;
  answer = answer (ask_of session asked.0) s;
  source = asked.1;
}

-- the needs of a line that began in a state
unfoldable pub needs_of : State → LineValue → List Need
needs_of s line = map (need_of line.session s) (first_of_each same_query (asked_of s line))

-- a need as a note
abbrev pub note_of : Need → Note
note_of need = Asked need.ask need.answer
