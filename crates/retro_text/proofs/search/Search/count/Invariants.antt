use Rattle.std.proofs.Common.{◌≡◌, ◌+◌, length}
use Rattle.std.specs.Prelude.{filter}
use Rattle.retro_text.specs.Search.{selects, selected_lines}
use Rattle.retro_text.proofs.search.Search.count.Given as goal

abbrev pub invariant-loop-line : goal.invariant-loop-line
invariant-loop-line l =
    l.count + length (filter (selects l.self) l.line-iterator) ≡ length (selected_lines l.self l.text)
