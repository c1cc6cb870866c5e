use Rattle.std.proofs.Common.{◌≡◌, ◌++◌, drop}
use Rattle.retro_text.specs.Cut.{selected_from, selected_items}
use Rattle.retro_text.specs.inner.Rising.{Covers}
use Rattle.retro_text.proofs.cut.push_bytes.Given as goal

abbrev pub invariant-loop-index : goal.invariant-loop-index
invariant-loop-index l =
    (l.out.items ++ selected_from l.index l.spans (drop l.index l.line)
    ≡ l.initial.out.items ++ selected_items l.spans l.line)
    × Covers l.spans l.index l.sweep.furthest l.sweep.rest.now
