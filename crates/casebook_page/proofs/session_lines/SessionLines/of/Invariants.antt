use Rattle.std.proofs.Common.{◌≡◌, ◌++◌, ℕ, drop}
use Rattle.std.specs.List.{filter}
use Rattle.casebook_page.specs.inner.SessionLines.{is_of, lines_at}
use Rattle.casebook_page.proofs.session_lines.SessionLines.of.Given as goal

abbrev pub invariant-loop-line : goal.invariant-loop-line
invariant-loop-line l =
    (n : ℕ) → lines_at l.by_session n ++ filter (is_of n) (drop l.line-index l.lines) ≡ filter (is_of n) l.lines
