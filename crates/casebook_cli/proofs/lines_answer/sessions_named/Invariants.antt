use Rattle.std.proofs.Common.{◌≡◌, drop, fold, map}
use Rattle.std.specs.List.{filter}
use Rattle.casebook_about.specs.Labels.{is_named}
use Rattle.casebook_cli.specs.Lines.{session_of_line, sessions_named, with_number}
use Rattle.casebook_cli.proofs.lines_answer.sessions_named.Given as goal

abbrev pub invariant-loop-line : goal.invariant-loop-line
invariant-loop-line l =
    fold with_number l.found.items (filter (is_named l.labels l.name) (map session_of_line (drop l.line-index l.lines)))
    ≡ sessions_named l.labels l.lines l.name
