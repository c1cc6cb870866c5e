use Rattle.std.proofs.Common.{◌≡◌, ◌++◌, map, drop}
use Rattle.retro_keep.specs.declared.edit.Edit.TheVariants.{Cancel}
use Rattle.retro_cli.proofs.words.cancellations.Given as goal

abbrev pub invariant-loop-number : goal.invariant-loop-number
invariant-loop-number l = l.found.items ++ map Cancel (drop l.number-index l.cancel) ≡ map Cancel l.cancel
