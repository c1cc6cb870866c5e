-- Queries: a state's answers, and the cells on which an answer can depend.
use Rattle.std.specs.Prelude.{ℕ, ◌==◌, Bool, false, ◌&&◌, ◌||◌, List, Option, Some, None}
use Rattle.std.specs.List.{filter_map}
use Rattle.std.specs.FinMap as map
use Rattle.retro_tree.specs.Order.{path_eq, text_eq}
use Rattle.retro_tree.specs.Path.{PathValue, parent_of, child_name, is_child, passwd}
use Rattle.retro_tree.specs.Node.{kind_of}
use Rattle.retro_tree.specs.Tree.{Tree, node_in}
use Rattle.retro_tree.specs.Session.{session_in}
use Rattle.retro_tree.specs.State.{permit_of}
use Rattle.retro_tree.specs.User.{user_in}
use Rattle.retro_tree.specs.declared.node.Node.{Node}
use Rattle.retro_tree.specs.declared.node.Node.TheVariants.{Missing, Dir, File}
use Rattle.retro_tree.specs.declared.cell.Cell.{Cell}
use Rattle.retro_tree.specs.declared.cell.Cell.TheVariants as cells
use Rattle.retro_tree.specs.declared.ask.Ask.{Ask}
use Rattle.retro_tree.specs.declared.ask.Ask.TheVariants as asks
use Rattle.retro_tree.specs.declared.answer.Answer.{Answer}
use Rattle.retro_tree.specs.declared.answer.Answer.TheVariants as answers
use Rattle.retro_tree.specs.declared.state.State.{State}

-- the names of the children of a path, in byte order
unfoldable pub names_in : PathValue → Tree → List (List ℕ)
names_in p tree = filter_map (child_name p) (map.keys tree)

-- only a directory has a listing
abbrev pub listing : Node → List (List ℕ) → Option (List (List ℕ))
listing Missing names = None
listing (File bytes) names = None
listing Dir names = Some names

-- a state's answer to a query
unfoldable pub answer : Ask → State → Answer
answer (asks.Kind p) s = answers.Kind (kind_of (node_in p s.tree))
answer (asks.Bytes p) s = answers.Bytes (node_in p s.tree)
answer (asks.Names p) s = answers.Names (listing (node_in p s.tree) (names_in p s.tree))
answer (asks.CanWrite p n) s = answers.CanWrite (permit_of p n s)
answer (asks.User name) s = answers.User (user_in name (node_in passwd s.tree))
answer (asks.VarOf sid name) s = answers.Var (map.get (session_in sid s.sessions).vars name)
answer (asks.CwdOf sid) s = answers.Cwd (session_in sid s.sessions).cwd
answer (asks.StatusOf sid) s = answers.Status (session_in sid s.sessions).status

-- whether the answer to a query can depend on a cell
unfoldable pub supports : Ask → Cell → Bool
supports (asks.Kind p) (cells.At q) = path_eq p q
supports (asks.Bytes p) (cells.At q) = path_eq p q
supports (asks.Names p) (cells.At q) = path_eq p q || is_child p q
supports (asks.CanWrite p n) (cells.At q) = path_eq p q || path_eq (parent_of p) q
supports (asks.User name) (cells.At q) = path_eq passwd q
supports (asks.VarOf sid name) (cells.Var other variable) = (sid == other) && text_eq name variable
supports (asks.CwdOf sid) (cells.Cwd other) = sid == other
supports (asks.StatusOf sid) (cells.Status other) = sid == other
supports _ _ = false
