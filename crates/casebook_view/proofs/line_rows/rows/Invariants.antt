use Rattle.std.proofs.Common.{◌≡◌, map, take}
use Rattle.casebook_view.specs.Filters.{filters_of}
use Rattle.casebook_view.specs.Rows.{row_value, rows_among, unknown_of}
use Rattle.casebook_view.specs.Sources.{source_view}
use Rattle.casebook_view.proofs.line_rows.rows.Given as goal

abbrev pub invariant-loop-line : goal.invariant-loop-line
invariant-loop-line l = record {
  rows : map row_value l.found.items
      ≡ rows_among (filters_of l.fn.filters) (unknown_of (source_view l.source) l.recording) (take l.line-index l.lines);
  same : filters_of l.filters ≡ filters_of l.fn.filters;
}
