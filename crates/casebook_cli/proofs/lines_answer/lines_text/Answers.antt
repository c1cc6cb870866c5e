use Rattle.std.proofs.Common.{ap, map, refl, string_bytes, subst, sym, ◌∙◌}
use Rattle.std.proofs.lemmas.Result.{err_from_is_err_and}
use Rattle.casebook_view.specs.Rows.{row_value}
use Rattle.casebook_about.specs.Rows.{time_view}
use Rattle.casebook_cli.specs.Typed.{lacks_times, typed}
use Rattle.casebook_cli.specs.Lines.{IsRowsText, account_rows}
use Rattle.casebook_cli.specs.Stops.{no_labels, no_memory, no_times, no_user}
use Rattle.casebook_cli.specs.inner.Views.{filters_by}
use Rattle.casebook_cli.proofs.lines_answer.lines_text.Goals as goal

pub returns-in_err-found-clause-err : goal.returns-in_err-found-clause-err
returns-in_err-found-clause-err g c =
    let p = err_from_is_err_and c.from_residual-in_err-found.result c.from_residual-in_err-found.ensures.1 in
    rw (p.1, p.2)
    (no_user c.in_ok-account.account c.in_ok-known.known.labels c.in_ok-account.ensures.ok
    c.in_ok-known.ensures.labels c.in_err-found.ensures.err)

pub returns-in_err-known-clause-err : goal.returns-in_err-known-clause-err
returns-in_err-known-clause-err g c =
    let p = err_from_is_err_and c.from_residual-in_err-known.result c.from_residual-in_err-known.ensures.1 in
    rw (p.1, p.2) (no_labels c.in_ok-account.account c.in_ok-account.ensures.ok c.in_err-known.ensures.err)

pub returns-then-lacks_times-clause-err : goal.returns-then-lacks_times-clause-err
returns-then-lacks_times-clause-err g c =
    let bounds = c.args.request.bounds in
    no_times c.in_ok-account.account c.in_ok-account.ensures.ok
    (sym (c.lacks_times.ensures
    ∙ ap (λ times. lacks_times bounds (map time_view times)) c.as_slice.ensures.value
    ∙ ap (lacks_times bounds) c.in_ok-known.ensures.times)
    ∙ c.if-lacks_times.true) refl

pub returns-in_err-widest_name-clause-err : goal.returns-in_err-widest_name-clause-err
returns-in_err-widest_name-clause-err g c =
    let p = err_from_is_err_and c.from_residual-in_err-widest_name.result c.from_residual-in_err-widest_name.ensures.1 in
    rw (p.1) (no_memory p.2)

pub returns-in_err-tell_none-clause-err : goal.returns-in_err-tell_none-clause-err
returns-in_err-tell_none-clause-err g c =
    let p = err_from_is_err_and c.from_residual-in_err-tell_none.result c.from_residual-in_err-tell_none.ensures.1 in
    rw (p.1) (no_memory p.2)

pub returns-in_err-rows_text-clause-err : goal.returns-in_err-rows_text-clause-err
returns-in_err-rows_text-clause-err g c =
    let p = err_from_is_err_and c.from_residual-in_err-rows_text.result c.from_residual-in_err-rows_text.ensures.1 in
    rw (p.1) (no_memory p.2)

pub returns-clause-ok : goal.returns-clause-ok
returns-clause-ok g c =
    let request = c.args.request in
    let labels = c.in_ok-known.known.labels in
    let account = c.in_ok-account.account in
    let lines = account.recording.lines in
    let filters = filters_by c.in_ok-found.ensures.ok.tests c.in_ok-patterns.patterns request.is_unknown in
    let found = c.in_ok-found.found.items in
    record {
      account = account;
      is_account = c.in_ok-account.ensures.ok;
      labels = labels;
      are_labels = c.in_ok-known.ensures.labels;
      timed = sym (c.lacks_times.ensures
          ∙ ap (λ times. lacks_times request.bounds (map time_view times)) c.as_slice.ensures.value
          ∙ ap (lacks_times request.bounds) c.in_ok-known.ensures.times)
          ∙ c.if-lacks_times.false;
      filters = filters;
      are_filters = record {
        tests = c.in_ok-found.ensures.ok.are_tests;
        user = c.in_ok-found.ensures.ok.user;
        text = c.in_ok-patterns.ensures.text;
        shown = c.in_ok-patterns.ensures.shown;
        unknown = refl;
      };
      shown = subst (λ rs. IsRowsText request.format labels rs (string_bytes c.in_ok-rows_text.field-0))
          (ap (map row_value) c.as_slice-2.ensures.value
          ∙ c.in_ok-found.ensures.ok.are_rows
          ∙ ap (λ times. typed request.bounds times (account_rows account filters))
          c.in_ok-known.ensures.times)
          c.in_ok-rows_text.ensures.value;
    }
