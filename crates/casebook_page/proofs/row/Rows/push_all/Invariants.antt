use Rattle.std.proofs.Common.{◌≡◌, ◌++◌, length}
use Rattle.casebook_page.specs.Told.{lines_told}
use Rattle.casebook_page.specs.Views.{contents_view}
use Rattle.casebook_page.proofs.row.Rows.push_all.Given as goal

abbrev pub invariant-loop-rest : goal.invariant-loop-rest
invariant-loop-rest l =
    l.html ++ lines_told (contents_view l.self.contents) l.rest
    ≡ l.fn.html ++ lines_told (contents_view l.self.contents) l.lines

abbrev pub decreases-loop-rest : goal.decreases-loop-rest
decreases-loop-rest l = length l.rest
