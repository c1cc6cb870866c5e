use Rattle.std.proofs.Common.{◌≡◌, ◌==◌, ◌++◌, length}
use Rattle.std.specs.List.{slice_split, join_with_byte}
use Rattle.retro_text.specs.Cut.{selected_items}
use Rattle.retro_text.specs.inner.Rising.{Covers}
use Rattle.retro_text.proofs.FieldLemmas.{joined_from}
use Rattle.retro_text.proofs.cut.push_fields.Given as goal

abbrev pub invariant-loop-index : goal.invariant-loop-index
invariant-loop-index l =
    let fields = slice_split (λ b. b == l.fn.delimiter) l.line in
    (l.out.items ++ joined_from l.fn.delimiter l.is_first l.spans (length l.yielded) fields
    ≡ l.initial.out.items ++ join_with_byte l.fn.delimiter (selected_items l.spans fields))
    × Covers l.spans (length l.yielded) l.sweep.furthest l.sweep.rest.now
