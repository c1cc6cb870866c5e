use Rattle.std.proofs.Common.{◌≡◌, ◌++◌, map, take}
use Rattle.casebook_words.specs.Words.{note_words}
use Rattle.casebook_screen.specs.declared.piece.Piece.TheVariants.{Text}
use Rattle.casebook_screen.proofs.detail.push_notes.Given as goal

abbrev pub invariant-loop-note : goal.invariant-loop-note
invariant-loop-note l = l.screen ≡ l.fn.screen ++ map (λ note. Text (note_words note)) (take l.note-index l.notes)
