use Rattle.std.proofs.lemmas.Result.{err_from_is_err_and}
use Rattle.retro_log.specs.inner.PartsView.{parts_view}
use Rattle.retro_log.proofs.OfParts.{log_first_refused, noted_fit, sessions_seen, tree_seen}
use Rattle.retro_log.proofs.reading.log.recording_of_parts.Goals as goal

pub returns-in_err-first : goal.returns-in_err-first
returns-in_err-first c =
    let p = err_from_is_err_and c.from_residual-in_err-first.result c.from_residual-in_err-first.ensures.1 in
    let parts = c.args.parts in
    let others = c.part_at-others.result in
    rw (p.1, p.2)
    (log_first_refused (parts_view parts) c.in_ok-number.number c.in_ok-begin.begin c.in_ok-rows.rows.items _
    c.in_err-first.field-0.0 (tree_seen parts c.in_ok-rows.rows c.in_ok-rows.ensures)
    (sessions_seen parts others c.part_at-others.ensures) c.in_err-first.ensures.value c.in_ok-fit.ensures
    c.in_ok-number.ensures c.in_ok-begin.ensures)

pub recording_of-requires-clause-own : goal.recording_of-requires-clause-own
recording_of-requires-clause-own c =
    (noted_fit c.args.parts c.requires.0 c.in_ok-noted.noted c.requires.1 c.in_ok-noted.ensures).0

pub recording_of-requires-clause-of_kind : goal.recording_of-requires-clause-of_kind
recording_of-requires-clause-of_kind c =
    (noted_fit c.args.parts c.requires.0 c.in_ok-noted.noted c.requires.1 c.in_ok-noted.ensures).1
