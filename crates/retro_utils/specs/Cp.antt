-- `cp` (XCU cp).
use Rattle.std.specs.Prelude.{ℕ, List, [], ◌∷◌, Option, Some, None, Result, Ok, Err}
use Rattle.std.specs.Prelude.{codes, if◌then◌else◌}
use Rattle.retro_tree.specs.Order.{path_eq}
use Rattle.retro_tree.specs.Path.{PathValue, is_null}
use Rattle.retro_tree.specs.State.{permit_of, put_node}
use Rattle.retro_tree.specs.declared.node.Node.TheVariants as nodes
use Rattle.retro_tree.specs.declared.state.State.{State}
use Rattle.retro_utils.specs.Operands.{is_several, located, then_done}
use Rattle.retro_utils.specs.Outcomes.{nothing_done, usage, with_fault}
use Rattle.retro_utils.specs.Reading.{path_reading}
use Rattle.retro_utils.specs.Reasons.{refusal}
use Rattle.retro_utils.specs.declared.done.Done.{Done}
use Rattle.retro_utils.specs.declared.reason.Reason.{Reason}
use Rattle.retro_utils.specs.declared.reason.Reason.TheVariants.{SameFile}
use Rattle.retro_utils.specs.Transfers.{after_transfer, target_of, target_path}
use Rattle.retro_utils.specs.declared.target.Target.{Target}
use Rattle.retro_utils.specs.declared.transfer_fault.TransferFault.{TransferFault}
use Rattle.retro_utils.specs.declared.transfer_fault.TransferFault.TheVariants as faults

abbrev pub put_copy : Option Reason → PathValue → List ℕ → State → State × Result (Unit {0}) TransferFault
put_copy None q text s = (put_node q (nodes.File text) s, Ok tt)
put_copy (Some reason) q text s = (s, Err (faults.Target reason))

-- bytes put at a path; /dev/null discards them
unfoldable pub write_copy : PathValue → List ℕ → State → State × Result (Unit {0}) TransferFault
write_copy q text s = if is_null q then (s, Ok tt) else put_copy (refusal (permit_of q 0 s)) q text s

abbrev pub copy_reading : PathValue → PathValue → Result (List ℕ) Reason → State
    → State × Result (Unit {0}) TransferFault
copy_reading p q (Err reason) s = (s, Err (faults.Source reason))
copy_reading p q (Ok text) s = if path_eq p q then (s, Err (faults.Source SameFile)) else write_copy q text s

-- the bytes of the file at a path put at the target
unfoldable pub copy_path : Target → PathValue → State → State × Result (Unit {0}) TransferFault
copy_path target p s = copy_reading p (target_path target p) (path_reading p s) s

abbrev pub copy_at : Target → Result PathValue Reason → State → State × Result (Unit {0}) TransferFault
copy_at target (Ok p) s = copy_path target p s
copy_at target (Err reason) s = (s, Err (faults.Source reason))

-- the file that an operand names copied
unfoldable pub copy_operand : ℕ → Target → List ℕ → State → State × Result (Unit {0}) TransferFault
copy_operand sid target source s = copy_at target (located sid source s) s

-- each source in turn
abbrev pub copy_all : ℕ → Target → List ℕ → List (List ℕ) → Done → State → State × Done
copy_all sid target last [] done s = (s, done)
copy_all sid target last (x ∷ xs) done s =
    then_done (after_transfer (codes "cp") x last done (copy_operand sid target x s)) (copy_all sid target last xs)

abbrev pub copy_to : ℕ → Result Target Reason → List ℕ → List (List ℕ) → State → State × Done
copy_to sid (Ok target) last sources s = copy_all sid target last sources (nothing_done 0) s
copy_to sid (Err reason) last sources s = (s, with_fault (codes "cp") last reason (nothing_done 0))

-- the sources before the last operand copied to the target that it names
unfoldable pub cp : ℕ → List ℕ → List (List ℕ) → State → State × Done
cp sid last [] s = (s, usage (codes "cp"))
cp sid last (x ∷ xs) s = copy_to sid (target_of sid (is_several (x ∷ xs)) last s) last (x ∷ xs) s
