use Rattle.std.proofs.Common.{◌≡◌, drop, length}
use Rattle.std.specs.List.{slice_split}
use Rattle.retro_text.specs.Spans.{is_separator, spans_after, spans_in}
use Rattle.retro_text.proofs.spans.Spans.of.Given as goal

abbrev pub invariant-loop-text : goal.invariant-loop-text
invariant-loop-text l = spans_after l.spans.items (drop (length l.yielded) (slice_split is_separator l.list))
    ≡ spans_in l.list
