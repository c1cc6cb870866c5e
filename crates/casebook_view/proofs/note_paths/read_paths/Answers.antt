use Rattle.retro_tree.specs.Order.{path_eq}
use Rattle.casebook_view.specs.NotePaths.{read_path}
use Rattle.casebook_view.proofs.FirstLemmas.{found_at}
use Rattle.casebook_view.proofs.RowLemmas.{all_found, path_exact}
use Rattle.casebook_view.proofs.note_paths.read_paths.Goals as goal

pub loop-note-preserved : goal.loop-note-preserved
loop-note-preserved c =
    found_at path_eq path_exact (read_path c.args.is_observed) c.loop-note.paths.items c.add_read.new.paths.items c.args.notes.now c.loop-note.note-index
    c.note-item.result c.loop-note-test.true c.note-item.is c.loop-note.invariant c.in_ok-add_read.ensures

pub returns : goal.returns
returns c =
    all_found path_eq (read_path c.args.is_observed) c.loop-note.paths.items c.args.notes.now c.loop-note.note-index c.loop-note-test.false
    c.loop-note.invariant
