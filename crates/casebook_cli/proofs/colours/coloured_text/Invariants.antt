use Rattle.std.proofs.Common.{◌≡◌, ◌++◌, true, drop, flat_map, string_bytes}
use Rattle.casebook_cli.specs.Colours.{coloured_line, shown_lines}
use Rattle.casebook_cli.proofs.colours.coloured_text.Given as goal

abbrev pub invariant-loop-line : goal.invariant-loop-line
invariant-loop-line l =
    string_bytes l.text ++ flat_map coloured_line (drop l.line-index l.lines) ≡ shown_lines true l.lines
