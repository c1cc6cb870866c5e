use Rattle.std.proofs.Common.{◌≡◌, take}
use Rattle.std.specs.List.{filter_map}
use Rattle.casebook_view.specs.FirstOfEach.{first_of_each}
use Rattle.casebook_view.specs.NotePaths.{write_eq, write_in}
use Rattle.casebook_view.proofs.note_paths.writes_of.Given as goal

abbrev pub invariant-loop-note : goal.invariant-loop-note
invariant-loop-note l = l.writes.items ≡ first_of_each write_eq (filter_map write_in (take l.note-index l.notes))
