use Rattle.casebook_view.specs.NotePaths.{write_eq, write_in}
use Rattle.casebook_view.proofs.FirstLemmas.{found_at}
use Rattle.casebook_view.proofs.RowLemmas.{all_found, write_exact}
use Rattle.casebook_view.proofs.note_paths.writes_of.Goals as goal

pub loop-note-preserved : goal.loop-note-preserved
loop-note-preserved c =
    found_at write_eq write_exact write_in c.loop-note.writes.items c.add_write.new.writes.items c.args.notes.now c.loop-note.note-index
    c.note-item.result c.loop-note-test.true c.note-item.is c.loop-note.invariant c.in_ok-add_write.ensures

pub returns : goal.returns
returns c =
    all_found write_eq write_in c.loop-note.writes.items c.args.notes.now c.loop-note.note-index c.loop-note-test.false
    c.loop-note.invariant
