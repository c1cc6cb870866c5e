use Rattle.std.proofs.Common.{[]}
use Rattle.casebook_text.specs.ListFile.{items_of_line}
use Rattle.casebook_text.proofs.FileLemmas.{AreFoundTo}
use Rattle.casebook_text.proofs.list_file.items_of_lines.Given as goal

abbrev pub invariant-loop-line : goal.invariant-loop-line
invariant-loop-line l = AreFoundTo items_of_line [] l.found.items l.lines l.line-index
