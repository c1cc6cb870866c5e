-- `mkdir -p` (XCU mkdir).
use Rattle.std.specs.Prelude.{ℕ, Bool, true, false, not, List, [], ◌∷◌, Option, Some, None, Result, Ok, Err}
use Rattle.std.specs.Prelude.{codes, find, take_while, if◌then◌else◌}
use Rattle.std.specs.List.{fold}
use Rattle.retro_tree.specs.Order.{path_eq}
use Rattle.retro_tree.specs.Path.{PathValue, prefixes_of}
use Rattle.retro_tree.specs.Tree.{Tree, put}
use Rattle.retro_tree.specs.declared.kind.Kind.{Kind}
use Rattle.retro_tree.specs.declared.kind.Kind.TheVariants as kinds
use Rattle.retro_tree.specs.declared.node.Node.TheVariants.{Dir}
use Rattle.retro_tree.specs.declared.state.State.{State}
use Rattle.retro_local.specs.Kinds.{kind_at}
use Rattle.retro_utils.specs.Operands.{Action, at_operand, in_turn}
use Rattle.retro_utils.specs.Outcomes.{nothing_done, usage}
use Rattle.retro_utils.specs.declared.done.Done.{Done}
use Rattle.retro_utils.specs.declared.reason.Reason.{Reason}
use Rattle.retro_utils.specs.declared.reason.Reason.TheVariants.{FileExists, NotDirectory}

abbrev pub is_file : Kind → Bool
is_file kinds.Missing = false
is_file kinds.Dir = false
is_file kinds.File = true

-- whether a file is in the way
abbrev pub is_blocked : State → PathValue → Bool
is_blocked s prefix = is_file (kind_at prefix s)

-- the reason by the prefix at which a file is
abbrev pub blocked_at : PathValue → PathValue → Reason
blocked_at p prefix = if path_eq prefix p then FileExists else NotDirectory

abbrev pub blocked_by : PathValue → Option PathValue → Result (Unit {0}) Reason
blocked_by p None = Ok tt
blocked_by p (Some prefix) = Err (blocked_at p prefix)

-- a directory at each of the paths
unfoldable pub with_dirs : List PathValue → Tree → Tree
with_dirs paths tree = fold (λ t q. put q Dir t) tree paths

-- a directory at each prefix before the first at which a file is, and the reason by that file
abbrev pub make_prefixes : PathValue → List PathValue → State → State × Result (Unit {0}) Reason
make_prefixes p prefixes s = (
  record s { tree = with_dirs (take_while (λ prefix. not (is_blocked s prefix)) prefixes) s.tree },
  blocked_by p (find (is_blocked s) prefixes),
)

-- the prefixes of a path are made
unfoldable pub make_parents : Action
make_parents p s = make_prefixes p (prefixes_of p) s

-- the path of each operand in turn
unfoldable pub mkdir_parents : ℕ → List (List ℕ) → State → State × Done
mkdir_parents sid [] s = (s, usage (codes "mkdir"))
mkdir_parents sid (x ∷ xs) s = in_turn (codes "mkdir") (at_operand sid make_parents) (x ∷ xs) (nothing_done 0) s
