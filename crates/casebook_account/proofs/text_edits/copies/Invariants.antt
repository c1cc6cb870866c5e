use Rattle.std.proofs.Common.{◌≡◌, take}
use Rattle.casebook_account.proofs.text_edits.copies.Given as goal

abbrev pub invariant-loop-edit : goal.invariant-loop-edit
invariant-loop-edit l = l.copies.items ≡ take l.edit-index l.edits
