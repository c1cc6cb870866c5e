-- What the lines so far were seen to do, and what those do that are left.
use Rattle.std.proofs.Common.{◌≡◌, ◌++◌, drop, map}
use Rattle.casebook_typed.specs.Values.{line_value}
use Rattle.casebook_import.specs.Lines.{seen_from, seen_value}
use Rattle.casebook_import.proofs.importing.seen_lines.Given as goal

abbrev pub invariant-loop-line : goal.invariant-loop-line
invariant-loop-line l =
    map seen_value l.seen.items
    ++ seen_from l.contents l.state (map line_value (drop l.line-index l.lines))
    ≡ seen_from l.contents l.first (map line_value l.lines)
