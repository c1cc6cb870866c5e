use Rattle.std.proofs.Common.{◌≡◌, ◌++◌, ◌∷◌, [], map, subst, ◌∙◌}
use Rattle.casebook_view.specs.Filters.{FiltersValue, filters_of, passes}
use Rattle.casebook_view.specs.Rows.{row_of, row_value, rows_among, unknown_of}
use Rattle.casebook_view.specs.Sources.{source_view}
use Rattle.casebook_view.specs.Obstacles.{AreObstacles}
use Rattle.casebook_view.proofs.FirstLemmas.{kept_at}
use Rattle.casebook_view.proofs.line_rows.rows.Goals as goal

pub loop-line-preserved : goal.loop-line-preserved
loop-line-preserved c =
    let unknown = unknown_of (source_view c.args.source) c.args.recording.now in
    let are = subst (λ lines. AreObstacles lines c.in_ok-obstacles.obstacles)
    (c.as_slice.ensures.value ∙ c.in_ok-unknown.ensures) c.in_ok-obstacles.ensures in
    record {
      rows = kept_at (passes (filters_of c.args.filters.now) unknown) (row_of unknown) (map row_value c.loop-line.found.items)
          (map row_value c.push_row.new.found.items) c.lines-lines.result.now c.loop-line.line-index c.line-item.result
          c.line-item.result c.loop-line-test.true c.line-item.is c.loop-line.invariant.rows
          (subst (λ (f : FiltersValue). map row_value c.push_row.new.found.items
          ≡ map row_value c.loop-line.found.items ++ rows_among f unknown (c.line-item.result ∷ []))
          c.loop-line.invariant.same (c.in_ok-push_row.ensures.rows unknown are));
      same = c.in_ok-push_row.ensures.same ∙ c.loop-line.invariant.same;
    }
