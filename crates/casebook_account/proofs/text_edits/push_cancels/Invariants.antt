use Rattle.std.proofs.Common.{◌≡◌, ◌++◌, ◌-◌, map}
use Rattle.std.specs.List.{range_with_len}
use Rattle.retro_keep.specs.declared.edit.Edit.TheVariants.{Cancel}
use Rattle.casebook_account.proofs.text_edits.push_cancels.Given as goal

abbrev pub invariant-loop-number : goal.invariant-loop-number
invariant-loop-number l =
    l.edits.items ≡ l.fn.edits.items ++ map Cancel (range_with_len l.first (l.number - l.first))
