use Rattle.std.proofs.Common.{◌≡◌, List, Some, ap, map, subst, sym, ◌∙◌}
use Rattle.std.proofs.lemmas.List.{take_all}
use Rattle.casebook_text.specs.Hunks.{AreHunks, HaveCounts}
use Rattle.casebook_patch.specs.Parts.{PartValue, patched, turned}
use Rattle.casebook_patch.specs.inner.Leading.{part_of}
use Rattle.casebook_patch.specs.inner.Reading.{texts_of}
use Rattle.casebook_patch.proofs.LeadLemmas.{counts_at, made, made_back}
use Rattle.casebook_patch.proofs.part.parts_of.Goals as goal

pub part_of-requires : goal.part_of-requires
part_of-requires c =
    let lines = c.in_ok-merged.merged.items in
    let found : AreHunks lines 3 c.in_ok-found.found.items =
    subst (λ ls. AreHunks ls 3 c.in_ok-found.found.items) c.as_slice.ensures.value c.in_ok-found.ensures in
    rw c.as_slice-in-loop-hunk.ensures.value
    (counts_at lines c.as_slice-hunk-items.result.now c.loop-hunk.hunk-index _ c.loop-hunk-test.true
    (subst (HaveCounts lines) (sym c.as_slice-hunk-items.ensures.value) found.counts))

pub returns-clause-forward : goal.returns-clause-forward
returns-clause-forward c =
    let lines = c.in_ok-merged.merged.items in
    let hunks = c.in_ok-found.found.items in
    let found : AreHunks lines 3 hunks = subst (λ ls. AreHunks ls 3 hunks) c.as_slice.ensures.value c.in_ok-found.ensures in
    let parts : c.loop-hunk.parts.items ≡ map (part_of lines) hunks =
    c.loop-hunk.invariant
    ∙ ap (map (part_of lines)) (take_all c.loop-hunk.hunk-index c.as_slice-hunk-items.result.now c.loop-hunk-test.false
    ∙ c.as_slice-hunk-items.ensures.value) in
    subst (λ (ps : List PartValue). patched 0 ps (texts_of c.args.old.now) ≡ Some (texts_of c.args.new.now)) (sym parts)
    (made 3 lines hunks (texts_of c.args.old.now) (texts_of c.args.new.now) found c.in_ok-merged.ensures.old c.in_ok-merged.ensures.new)

pub returns-clause-backward : goal.returns-clause-backward
returns-clause-backward c =
    let lines = c.in_ok-merged.merged.items in
    let hunks = c.in_ok-found.found.items in
    let found : AreHunks lines 3 hunks = subst (λ ls. AreHunks ls 3 hunks) c.as_slice.ensures.value c.in_ok-found.ensures in
    let parts : c.loop-hunk.parts.items ≡ map (part_of lines) hunks =
    c.loop-hunk.invariant
    ∙ ap (map (part_of lines)) (take_all c.loop-hunk.hunk-index c.as_slice-hunk-items.result.now c.loop-hunk-test.false
    ∙ c.as_slice-hunk-items.ensures.value) in
    subst (λ (ps : List PartValue). patched 0 (map turned ps) (texts_of c.args.new.now) ≡ Some (texts_of c.args.old.now)) (sym parts)
    (made_back 3 lines hunks (texts_of c.args.old.now) (texts_of c.args.new.now) found c.in_ok-merged.ensures.old c.in_ok-merged.ensures.new)
