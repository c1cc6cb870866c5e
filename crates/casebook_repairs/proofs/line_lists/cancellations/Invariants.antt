use Rattle.std.proofs.Common.{◌≡◌, ◌++◌, drop, map}
use Rattle.retro_keep.specs.declared.edit.Edit.TheVariants.{Cancel}
use Rattle.casebook_repairs.proofs.line_lists.cancellations.Given as goal

abbrev pub invariant-loop-number : goal.invariant-loop-number
invariant-loop-number l = l.edits.items ++ map Cancel (drop l.number-index l.numbers) ≡ map Cancel l.numbers
