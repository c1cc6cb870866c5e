-- `mv` (XCU mv).
use Rattle.std.specs.Prelude.{ℕ, Bool, ◌||◌, List, [], ◌∷◌, Option, Some, None, Result, Ok, Err}
use Rattle.std.specs.Prelude.{codes, if◌then◌else◌}
use Rattle.retro_tree.specs.Ask.{names_in}
use Rattle.retro_tree.specs.Node.{kind_of}
use Rattle.retro_tree.specs.Order.{path_eq}
use Rattle.retro_tree.specs.Path.{PathValue, below, is_null, parent_of}
use Rattle.retro_tree.specs.State.{permit_of}
use Rattle.retro_tree.specs.Tree.{node_in}
use Rattle.retro_tree.specs.declared.kind.Kind.{Kind}
use Rattle.retro_tree.specs.declared.kind.Kind.TheVariants as kinds
use Rattle.retro_tree.specs.declared.state.State.{State}
use Rattle.retro_local.specs.Kinds.{kind_at}
use Rattle.retro_moves.specs.Trees.{moved, with_tree}
use Rattle.retro_utils.specs.Operands.{is_several, located, then_done}
use Rattle.retro_utils.specs.Outcomes.{nothing_done, usage, with_fault}
use Rattle.retro_utils.specs.Reasons.{no_directory, refusal}
use Rattle.retro_utils.specs.Rm.{is_protected}
use Rattle.retro_utils.specs.Transfers.{after_transfer, target_of, target_path}
use Rattle.retro_utils.specs.declared.done.Done.{Done}
use Rattle.retro_utils.specs.declared.reason.Reason.{Reason}
use Rattle.retro_utils.specs.declared.reason.Reason.TheVariants.{InvalidArgument, NoSuchFile, NotDirectory}
use Rattle.retro_utils.specs.declared.reason.Reason.TheVariants.{NotEmpty, NotPermitted, SameFile}
use Rattle.retro_utils.specs.declared.target.Target.{Target}
use Rattle.retro_utils.specs.declared.transfer_fault.TransferFault.{TransferFault}
use Rattle.retro_utils.specs.declared.transfer_fault.TransferFault.TheVariants as faults

-- /dev and /dev/null, which aren't replaced
unfoldable pub is_device : PathValue → Bool
is_device q = path_eq (codes "dev" ∷ []) q || is_null q

-- the reason why a path can't be moved to another one, by the names that follow it there
abbrev pub overlap_by : Option PathValue → Option Reason
overlap_by None = None
overlap_by (Some []) = Some SameFile
overlap_by (Some (name ∷ rest)) = Some InvalidArgument

-- a path isn't moved to itself or to a path below it
abbrev pub overlap : PathValue → PathValue → Option Reason
overlap p q = overlap_by (below p q)

-- the reason why what has a kind isn't moved from p to q, whatever is at q
abbrev pub no_source : Kind → PathValue → PathValue → Option Reason
no_source kinds.Missing p q = Some NoSuchFile
no_source kinds.Dir p q = overlap p q
no_source kinds.File p q = overlap p q

abbrev pub not_empty : List (List ℕ) → Option Reason
not_empty [] = None
not_empty (name ∷ names) = Some NotEmpty

-- the reason why a directory can't be put at a path, by the kind there: it can replace only an
-- empty directory
abbrev pub no_dir_place : Kind → PathValue → State → Option Reason
no_dir_place kinds.Missing q s = no_directory (kind_at (parent_of q) s)
no_dir_place kinds.Dir q s = not_empty (names_in q s.tree)
no_dir_place kinds.File q s = Some NotDirectory

-- the reason why what has a kind can't be put at a path
abbrev pub no_place : Kind → PathValue → State → Option Reason
no_place kinds.Missing q s = None
no_place kinds.Dir q s = no_dir_place (kind_at q s) q s
no_place kinds.File q s = refusal (permit_of q 0 s)

-- a path moved with everything below it, unless there is a reason against the place
abbrev pub put_moved : Option Reason → PathValue → PathValue → State → State × Result (Unit {0}) TransferFault
put_moved None p q s = (with_tree (moved p q) s, Ok tt)
put_moved (Some reason) p q s = (s, Err (faults.Target reason))

abbrev pub move_unless : Option Reason → Kind → PathValue → PathValue → State
    → State × Result (Unit {0}) TransferFault
move_unless None kind p q s = put_moved (no_place kind q s) p q s
move_unless (Some reason) kind p q s = (s, Err (faults.Source reason))

abbrev pub move_kind : Kind → PathValue → PathValue → State → State × Result (Unit {0}) TransferFault
move_kind kind p q s = move_unless (no_source kind p q) kind p q s

-- what is at a path moved to another one
unfoldable pub move_path : PathValue → PathValue → State → State × Result (Unit {0}) TransferFault
move_path p q s = move_kind (kind_of (node_in p s.tree)) p q s

unfoldable pub move_to : List ℕ → PathValue → PathValue → State → State × Result (Unit {0}) TransferFault
move_to source p q s =
    if is_protected source p || is_device q then (s, Err (faults.Source NotPermitted)) else move_path p q s

abbrev pub move_at : List ℕ → Target → Result PathValue Reason → State → State × Result (Unit {0}) TransferFault
move_at source target (Ok p) s = move_to source p (target_path target p) s
move_at source target (Err reason) s = (s, Err (faults.Source reason))

-- what an operand names moved
unfoldable pub move_operand : ℕ → Target → List ℕ → State → State × Result (Unit {0}) TransferFault
move_operand sid target source s = move_at source target (located sid source s) s

-- each source in turn
abbrev pub move_all : ℕ → Target → List ℕ → List (List ℕ) → Done → State → State × Done
move_all sid target last [] done s = (s, done)
move_all sid target last (x ∷ xs) done s =
    then_done (after_transfer (codes "mv") x last done (move_operand sid target x s)) (move_all sid target last xs)

abbrev pub move_all_to : ℕ → Result Target Reason → List ℕ → List (List ℕ) → State → State × Done
move_all_to sid (Ok target) last sources s = move_all sid target last sources (nothing_done 0) s
move_all_to sid (Err reason) last sources s = (s, with_fault (codes "mv") last reason (nothing_done 0))

-- the sources before the last operand moved to the target that it names
unfoldable pub mv : ℕ → List ℕ → List (List ℕ) → State → State × Done
mv sid last [] s = (s, usage (codes "mv"))
mv sid last (x ∷ xs) s = move_all_to sid (target_of sid (is_several (x ∷ xs)) last s) last (x ∷ xs) s
