use Rattle.std.proofs.Common.{◌≡◌, ◌++◌}
use Rattle.retro_text.specs.Lines.{text_of_lines}
use Rattle.retro_text.specs.Cut.{cut_lines, cut_text}
use Rattle.retro_text.proofs.cut.Cut.text.Given as goal

abbrev pub invariant-loop-line : goal.invariant-loop-line
invariant-loop-line l =
    l.out.items ++ text_of_lines (cut_lines l.self l.line-iterator)
    ≡ cut_text l.self l.text
