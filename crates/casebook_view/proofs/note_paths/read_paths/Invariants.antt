use Rattle.std.proofs.Common.{◌≡◌, take}
use Rattle.std.specs.List.{filter_map}
use Rattle.retro_tree.specs.Order.{path_eq}
use Rattle.casebook_view.specs.FirstOfEach.{first_of_each}
use Rattle.casebook_view.specs.NotePaths.{read_path}
use Rattle.casebook_view.proofs.note_paths.read_paths.Given as goal

abbrev pub invariant-loop-note : goal.invariant-loop-note
invariant-loop-note l =
    l.paths.items
    ≡ first_of_each path_eq (filter_map (read_path l.is_observed) (take l.note-index l.notes))
