-- What `cp` and `mv` share: the target of each source, and the operand that a fault is on (XCU cp,
-- mv).
use Rattle.std.specs.Prelude.{ℕ, Bool, List, ◌++◌, option_to_list, Result, Ok, Err, if◌then◌else◌}
use Rattle.retro_tree.specs.Path.{PathValue, last_of}
use Rattle.retro_tree.specs.declared.kind.Kind.{Kind}
use Rattle.retro_tree.specs.declared.kind.Kind.TheVariants as kinds
use Rattle.retro_tree.specs.declared.state.State.{State}
use Rattle.retro_local.specs.Kinds.{kind_at}
use Rattle.retro_utils.specs.Operands.{located}
use Rattle.retro_utils.specs.Outcomes.{with_fault}
use Rattle.retro_utils.specs.declared.done.Done.{Done}
use Rattle.retro_utils.specs.declared.reason.Reason.{Reason}
use Rattle.retro_utils.specs.declared.reason.Reason.TheVariants.{NotDirectory}
use Rattle.retro_utils.specs.declared.target.Target.{Target}
use Rattle.retro_utils.specs.declared.target.Target.TheVariants.{Into, Onto}
use Rattle.retro_utils.specs.declared.transfer_fault.TransferFault.{TransferFault}
use Rattle.retro_utils.specs.declared.transfer_fault.TransferFault.TheVariants as faults

-- the path that a source goes to: in a directory it keeps its last name
abbrev pub target_path : Target → PathValue → PathValue
target_path (Into q) p = q ++ option_to_list (last_of p)
target_path (Onto q) p = q

abbrev pub target_by_kind : Bool → PathValue → Kind → Result Target Reason
target_by_kind several q kinds.Dir = Ok (Into q)
target_by_kind several q kinds.Missing = if several then Err NotDirectory else Ok (Onto q)
target_by_kind several q kinds.File = if several then Err NotDirectory else Ok (Onto q)

abbrev pub target_at : Bool → Result PathValue Reason → State → Result Target Reason
target_at several (Ok q) s = target_by_kind several q (kind_at q s)
target_at several (Err reason) s = Err reason

-- the target that the last operand names; several sources need a directory
unfoldable pub target_of : ℕ → Bool → List ℕ → State → Result Target Reason
target_of sid several last s = target_at several (located sid last s) s

-- the diagnostic of a fault on the source or on the last operand
abbrev pub with_transfer : List ℕ → List ℕ → List ℕ → Result (Unit {0}) TransferFault → Done → Done
with_transfer name source last (Ok moved) done = done
with_transfer name source last (Err (faults.Source reason)) done = with_fault name source reason done
with_transfer name source last (Err (faults.Target reason)) done = with_fault name last reason done

abbrev pub after_transfer : List ℕ → List ℕ → List ℕ → Done → State × Result (Unit {0}) TransferFault → State × Done
after_transfer name source last done (s, outcome) = (s, with_transfer name source last outcome done)
