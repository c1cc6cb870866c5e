use Rattle.std.proofs.Common.{◌≡◌}
use Rattle.std.specs.List.{list_any}
use Rattle.retro_text.specs.Lines.{lines_in}
use Rattle.retro_text.specs.Search.{selects}
use Rattle.retro_text.proofs.search.Search.selects_any.Given as goal

abbrev pub invariant-loop-line : goal.invariant-loop-line
invariant-loop-line l = list_any (selects l.self) l.line-iterator ≡ list_any (selects l.self) (lines_in l.text)
