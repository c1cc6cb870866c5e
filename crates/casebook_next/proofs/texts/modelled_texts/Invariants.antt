-- The texts so far, and those of the lines that are left.
use Rattle.std.proofs.Common.{◌≡◌, ◌++◌, drop}
use Rattle.std.specs.FinMap as map_of
use Rattle.casebook_next.specs.Next.{modelled_texts}
use Rattle.casebook_next.proofs.texts.modelled_texts.Given as goal

abbrev pub invariant-loop-line : goal.invariant-loop-line
invariant-loop-line l =
    l.texts.items ++ modelled_texts (map_of.get l.edits) l.recording (drop l.line-index l.lines)
    ≡ modelled_texts (map_of.get l.edits) l.recording l.lines
