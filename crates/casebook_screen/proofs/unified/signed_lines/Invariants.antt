-- The lines so far, and what is left of both texts.
use Rattle.std.proofs.Common.{◌≡◌, drop, map, take}
use Rattle.casebook_text.specs.Diff.{in_new, in_old, marked}
use Rattle.casebook_screen.specs.Unified.{signed_line}
use Rattle.casebook_screen.proofs.unified.signed_lines.Given as goal

abbrev pub invariant-loop-line : goal.invariant-loop-line
invariant-loop-line l = record {
  lines : l.lines.items ≡ map signed_line (take l.line-index l.merged);
  old : marked in_old (drop l.line-index l.merged) ≡ l.old;
  new : marked in_new (drop l.line-index l.merged) ≡ l.new;
}
