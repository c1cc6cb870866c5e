use Rattle.std.proofs.Common.{◌≡◌, ◌++◌, length}
use Rattle.casebook_words.specs.FileLines.{shown_lines}
use Rattle.casebook_words.proofs.file_lines.shown_lines.Given as goal

abbrev pub invariant-loop-first : goal.invariant-loop-first
invariant-loop-first l = l.lines.items ++ shown_lines l.rest ≡ shown_lines l.text

abbrev pub decreases-loop-first : goal.decreases-loop-first
decreases-loop-first l = length l.rest
