use Rattle.std.proofs.Common.{◌≡◌, ◌+◌, ◌<◌, drop, get_or, length, refl, sym, ap, subst, ◌∙◌}
use Rattle.retro_tree.specs.Change.{apply}
use Rattle.retro_tree.specs.Notes.{after}
use Rattle.retro_tree.specs.Overlay.{Fits}
use Rattle.retro_tree.specs.Commit.{committed}
use Rattle.retro_tree.specs.declared.note.Note.TheVariants.{Asked, Made}
use Rattle.retro_tree.proofs.Fitting.{fits_overlays}
use Rattle.casebook_stand_in.proofs.Stepping.{after_from}
use Rattle.casebook_stand_in.proofs.trial.make_changes.Goals as goal
use Rattle.casebook_stand_in.proofs.trial.make_changes.Goals.{in-Made+in_ok-copy+in_ok-apply, in_default}

pub loop-note-preserved : goal.loop-note-preserved
loop-note-preserved c =
    let here : c.loop-note.note-index < length c.args.notes.now
    = subst (λ x. c.loop-note.note-index < length x) c.as_slice-note-items.ensures c.loop-note-test.true in
    let read : c.note-item.result ≡ get_or c.args.notes.now c.loop-note.note-index c.note-item.result
    = c.note-item.is
    ∙ ap (λ x. get_or x c.loop-note.note-index c.note-item.result) c.as_slice-note-items.ensures in
    elim c.match-note.branch [
      | in-Made+in_ok-copy+in_ok-apply w ↦ record {
        fits = subst Fits (sym w.cells-is) (w.in_ok-apply.ensures.fits c.loop-note.invariant.fits);
        rest = λ s.
            ap (after (drop (c.loop-note.note-index + 1) c.args.notes.now))
            (ap (λ m. committed m s) w.cells-is
            ∙ w.in_ok-apply.ensures.committed s (committed c.loop-note.cells s)
            (fits_overlays c.loop-note.cells s c.loop-note.invariant.fits) refl
            ∙ ap (λ x. apply x (committed c.loop-note.cells s)) w.in_ok-copy.ensures)
            ∙ after_from c.args.notes.now c.loop-note.note-index c.note-item.result (Made w.in-Made.change)
            (committed c.loop-note.cells s) here read w.in-Made.is
            ∙ c.loop-note.invariant.rest s;
      }
      | in_default w ↦ record {
        fits = subst Fits (sym w.cells-is) c.loop-note.invariant.fits;
        rest = λ s.
            ap (after (drop (c.loop-note.note-index + 1) c.args.notes.now)) (ap (λ m. committed m s) w.cells-is)
            ∙ after_from c.args.notes.now c.loop-note.note-index c.note-item.result
            (Asked w.in_default.field-0 w.in_default.field-1) (committed c.loop-note.cells s) here read w.in_default.is
            ∙ c.loop-note.invariant.rest s;
      }
    ]
