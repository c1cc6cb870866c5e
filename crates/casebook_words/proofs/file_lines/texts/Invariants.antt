use Rattle.std.proofs.Common.{◌≡◌, map, take}
use Rattle.casebook_words.proofs.file_lines.texts.Given as goal

abbrev pub invariant-loop-line : goal.invariant-loop-line
invariant-loop-line l = map (λ text. text.now) l.texts.items ≡ take l.line-index l.lines
