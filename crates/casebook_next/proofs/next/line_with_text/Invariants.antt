use Rattle.std.proofs.Common.{◌≡◌, drop}
use Rattle.std.specs.List.{find}
use Rattle.casebook_next.specs.Next.{has_text}
use Rattle.casebook_next.proofs.next.line_with_text.Given as goal

abbrev pub invariant-loop-line : goal.invariant-loop-line
invariant-loop-line l = find (has_text l.number) (drop l.line-index l.lines) ≡ find (has_text l.number) l.lines
