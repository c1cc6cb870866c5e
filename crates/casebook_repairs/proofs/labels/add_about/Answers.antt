use Rattle.std.proofs.Common.{map, subst}
use Rattle.std.proofs.lemmas.Result.{err_from_is_err_and}
use Rattle.casebook_about.specs.About.{about_view}
use Rattle.casebook_about.specs.Rows.{time_view}
use Rattle.casebook_repairs.specs.Stops.{AreBadTimes}
use Rattle.casebook_repairs.specs.Stops.{bad_time}
use Rattle.casebook_repairs.proofs.labels.add_about.Goals as goal

pub returns-in_err-add_times-clause-err : goal.returns-in_err-add_times-clause-err
returns-in_err-add_times-clause-err c =
    let p =
    err_from_is_err_and c.from_residual-in_err-add_times.result c.from_residual-in_err-add_times.ensures.1 in
    rw (p.1, p.2)
    (bad_time (about_view c.in_ok-about.about) c.in_ok-about.ensures.ok
    (subst (λ times. AreBadTimes (map time_view times) c.in_err-add_times.field-0.0) c.as_slice.ensures.value
    c.in_err-add_times.ensures.err))
