use Rattle.std.proofs.Common.{◌∙◌, ap}
use Rattle.retro_keep.specs.Edit.{edit_of, is_among}
use Rattle.casebook_real.specs.Next.{first_to_run}
use Rattle.casebook_real.proofs.Verdicts.{next_by_notes, same_next}
use Rattle.casebook_real.proofs.next.next_to_run.Goals as goal

pub returns-clause-notes : goal.returns-clause-notes
returns-clause-notes c =
    next_by_notes (edit_of c.args.edits.now) (is_among c.args.observed.now) c.args.repair.now _
    (c.first_to_run.ensures ∙ same_next _ _ _ _ c.as_slice.result.now c.in_ok-by_number.ensures c.in_ok-texts.ensures
    ∙ ap (first_to_run (edit_of c.args.edits.now) (is_among c.args.observed.now)) c.as_slice.ensures.value)
