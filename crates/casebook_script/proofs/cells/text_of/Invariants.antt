use Rattle.std.proofs.Common.{◌≡◌, Some, false, length, string_bytes}
use denote.Text.{Utf8}
use denote.Shadow.{shadow}
use Rattle.casebook_script.specs.Cells.{joined, unescaped}
use Rattle.casebook_script.proofs.cells.text_of.Given as goal

abbrev pub invariant-escapes : goal.invariant-escapes
invariant-escapes l =
    shadow (Utf8 l.rest) ×
    (joined (Some (string_bytes l.text)) (unescaped false l.rest) ≡ unescaped false l.cell)

abbrev pub decreases-escapes : goal.decreases-escapes
decreases-escapes l = length l.rest
