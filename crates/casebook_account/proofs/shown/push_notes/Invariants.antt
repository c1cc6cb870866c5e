use Rattle.std.proofs.Common.{◌≡◌, ◌++◌, take}
use Rattle.std.specs.Prelude.{not}
use Rattle.std.specs.List.{filter}
use Rattle.casebook_account.specs.Ours.{is_our_note}
use Rattle.casebook_account.proofs.shown.push_notes.Given as goal

abbrev pub invariant-loop-note : goal.invariant-loop-note
invariant-loop-note l =
    l.notes.items ≡ l.fn.notes.items
    ++ filter (λ note. not (is_our_note note)) (take l.note-index l.text.1.notes)
