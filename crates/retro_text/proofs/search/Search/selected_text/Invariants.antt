use Rattle.std.proofs.Common.{◌≡◌, ◌++◌}
use Rattle.std.specs.Prelude.{filter}
use Rattle.retro_text.specs.Search.{selects, selected_lines, labelled_text}
use Rattle.retro_text.proofs.search.Search.selected_text.Given as goal

abbrev pub invariant-loop-line : goal.invariant-loop-line
invariant-loop-line l =
    l.out ++ labelled_text l.label (filter (selects l.self) l.line-iterator)
    ≡ labelled_text l.label (selected_lines l.self l.text)
