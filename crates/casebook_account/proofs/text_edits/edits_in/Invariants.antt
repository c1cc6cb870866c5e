-- The edits of texts so far, with what the edits that are left come to.
use Rattle.std.proofs.Common.{◌≡◌, drop}
use Rattle.casebook_account.specs.Edits.{edits_in}
use Rattle.casebook_account.proofs.EditLists.{after_some}
use Rattle.casebook_account.proofs.text_edits.edits_in.Given as goal

abbrev pub invariant-loop-edit : goal.invariant-loop-edit
invariant-loop-edit l =
    after_some l.found.items (edits_in l.machine.lines.items (drop l.edit-index l.edits))
    ≡ edits_in l.machine.lines.items l.edits
