use Rattle.std.proofs.Common.{rules, sym, subst}
use Rattle.std.proofs.lemmas.List.Sorted.{IsNonDecreasingBy-from_sort_by_key}
use Rattle.retro_text.specs.inner.Rising.{AreRising}
use Rattle.retro_text.proofs.spans.Spans.merged.Goals as goal

pub merge-requires : goal.merge-requires
merge-requires c =
    subst AreRising (sym c.as_slice-2.ensures.value)
    (IsNonDecreasingBy-from_sort_by_key (λ s. s.first) c.sort_by_key.new.self.items c.in_ok-sort_by_key.ensures.sorted
    (λ a r f k. search rules))
