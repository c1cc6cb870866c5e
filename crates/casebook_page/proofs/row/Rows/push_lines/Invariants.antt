use Rattle.std.proofs.Common.{◌≡◌, ◌++◌, drop}
use Rattle.casebook_page.specs.Told.{lines_told}
use Rattle.casebook_page.specs.Views.{contents_view}
use Rattle.casebook_page.proofs.row.Rows.push_lines.Given as goal

abbrev pub invariant-loop-line : goal.invariant-loop-line
invariant-loop-line l =
    l.html ++ lines_told (contents_view l.self.contents) (drop l.line-index l.lines)
    ≡ l.fn.html ++ lines_told (contents_view l.self.contents) l.lines
