use Rattle.std.proofs.Common.{◌≡◌, ◌+◌, ◌∙◌, ◌∷◌, drop, get_or, map, option_map, pos, ap, sym, subst, refl, add-one, drop-cons}
use Rattle.std.proofs.Math.ListN.{drop_of_length-le}
use Rattle.std.proofs.lemmas.Option.{slice_get-get_or, slice_get-map}
use Rattle.std.proofs.lemmas.Result.{err_from_is_err_and}
use Rattle.casebook_about.specs.Rows.{time_view}
use Rattle.casebook_about.specs.declared.rows.LineTime.{LineTime}
use Rattle.casebook_repairs.specs.Labels.{AreTimesAdded, none, one}
use Rattle.casebook_repairs.proofs.labels.add_times.Goals as goal

abbrev zero_time : LineTime
zero_time = record { number = 0; second = pos 0 }

pub loop-time-preserved : goal.loop-time-preserved
loop-time-preserved c =
    λ new rest.
    let k = c.loop-time.time-index in
    let times = c.args.times.now in
    let t : LineTime = get_or times k zero_time in
    let here : drop k times ≡ t ∷ drop (k + 1) times =
    drop-cons times k zero_time c.loop-time-test.true ∙ rw (add-one k) refl in
    c.loop-time.invariant new
    (subst (λ l. AreTimesAdded l c.loop-time.labels new) (sym (ap (map time_view) here))
    (one c.in_ok-add_time.ensures.ok rest))

pub returns-in_err-add_time-clause-err : goal.returns-in_err-add_time-clause-err
returns-in_err-add_time-clause-err c =
    let k = c.loop-time.time-index in
    let times = c.args.times.now in
    let t : LineTime = get_or times k zero_time in
    let p = err_from_is_err_and c.from_residual.result c.from_residual.ensures.1 in
    rw (p.1, p.2)
    (record {
      index = k;
      time = time_view t;
      found = slice_get-map time_view times k
          ∙ ap (option_map time_view) (slice_get-get_or times k zero_time c.loop-time-test.true);
      is_bad = c.in_err-add_time.ensures.err;
    })

pub returns-clause-ok : goal.returns-clause-ok
returns-clause-ok c =
    let labels = c.loop-time.labels in
    c.loop-time.invariant labels
    (subst (λ l. AreTimesAdded (map time_view l) labels labels)
    (sym (drop_of_length-le c.args.times.now c.loop-time-test.false)) none)
