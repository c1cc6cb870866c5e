use Rattle.std.proofs.Common.{◌≡◌, ◌++◌, ap, map, option_map, subst, ◌∙◌}
use Rattle.casebook_about.specs.Rows.{time_view}
use Rattle.casebook_view.specs.Filters.{FiltersValue, filters_of}
use Rattle.casebook_view.specs.Rows.{row_value, rows_of}
use Rattle.casebook_view.specs.Sources.{SourceValue}
use Rattle.casebook_repairs.specs.Labels.{seen_by, source_by}
use Rattle.casebook_cli.specs.Typed.{typed}
use Rattle.casebook_cli.specs.Lines.{HasUser, user_tests}
use Rattle.casebook_cli.specs.Tests.{test_view}
use Rattle.casebook_cli.proofs.lines_answer.asked_rows.Goals as goal

pub returns-clause-ok : goal.returns-clause-ok
returns-clause-ok c =
    let request = c.args.request in
    let known = c.args.known.now in
    let tests = c.push_user.new.tests.items in
    let found = c.in_ok-found.found.items in
    record {
      tests = tests;
      are_tests = subst
          (λ known_lines. map test_view tests
          ≡ map test_view c.in_ok-tests.tests.items
          ++ user_tests known.labels known_lines (option_map (λ s. s.now) request.user))
          c.lines.ensures.value c.in_ok-push_user.ensures.ok
          ∙ ap (λ named. named ++ user_tests known.labels c.args.account.now.recording.lines (option_map (λ s. s.now) request.user))
          c.in_ok-tests.ensures;
      user = subst (λ known_lines. HasUser known.labels known_lines (option_map (λ s. s.now) request.user))
          c.lines.ensures.value c.in_ok-push_user.ensures.known;
      are_rows = c.in_ok-typed_rows.ensures
          ∙ ap (λ times. typed request.bounds (map time_view times) (map row_value found)) c.as_slice.ensures.value
          ∙ ap (typed request.bounds (map time_view known.times.items))
          (c.in_ok-found.ensures
          ∙ ap (λ (at : SourceValue). rows_of at (filters_of c.in_ok-filters.filters) c.args.account.now.recording)
          (c.source_by.ensures ∙ ap source_by c.in_ok-seen.ensures)
          ∙ ap (λ (f : FiltersValue). rows_of (source_by (seen_by c.args.account.now.machine)) f
          c.args.account.now.recording) c.in_ok-filters.ensures);
    }
