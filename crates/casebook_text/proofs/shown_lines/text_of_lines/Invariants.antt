use Rattle.std.proofs.Common.{string_bytes, take}
use Rattle.casebook_text.proofs.ShownLines.{IsTextOf}
use Rattle.casebook_text.proofs.shown_lines.text_of_lines.Given as goal

abbrev pub invariant-loop-line : goal.invariant-loop-line
invariant-loop-line l = IsTextOf (string_bytes l.text) (take l.line-index l.lines)
