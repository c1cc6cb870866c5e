use Rattle.std.proofs.Common.{◌≡◌, ◌++◌, map}
use Rattle.casebook_page.specs.Told.{name_told}
use Rattle.casebook_page.proofs.row.Rows.push_columns.Given as goal

abbrev pub invariant-loop-session : goal.invariant-loop-session
invariant-loop-session l =
    l.html ++ map (name_told l.self.contents.labels.now) l.session-iterator
    ≡ l.fn.html ++ map (name_told l.self.contents.labels.now) l.sessions.keys
