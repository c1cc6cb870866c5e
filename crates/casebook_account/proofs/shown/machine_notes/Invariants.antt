use Rattle.std.proofs.Common.{◌≡◌, take}
use Rattle.casebook_account.specs.Shown.{machine_notes}
use Rattle.casebook_account.proofs.shown.machine_notes.Given as goal

abbrev pub invariant-loop-text : goal.invariant-loop-text
invariant-loop-text l = l.notes.items ≡ machine_notes (take l.text-index l.texts)
