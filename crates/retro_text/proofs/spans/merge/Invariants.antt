use Rattle.retro_text.proofs.Merging.{IsMerging}
use Rattle.retro_text.proofs.spans.merge.Given as goal

abbrev pub invariant-loop-span : goal.invariant-loop-span
invariant-loop-span l = IsMerging l.spans l.rest l.span-index l.merged.items l.current
