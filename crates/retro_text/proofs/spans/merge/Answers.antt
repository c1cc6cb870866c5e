use Rattle.std.proofs.Common.{◌∷◌, ◌++◌, [], ◌+◌, ◌-◌, length, drop, take, get_or, sym, ap, ◌∙◌, arith, subst}
use Rattle.std.specs.Prelude.{None}
use Rattle.std.proofs.lemmas.List.{drop_more, take_all, length-drop, get_or_default}
use Rattle.std.proofs.lemmas.List.Sorted.{IsNonDecreasingBy-drop, IsNonDecreasingBy-take}
use Rattle.retro_text.specs.Spans.{span}
use Rattle.retro_text.specs.inner.Rising.{AreRising, SelectAlike}
use Rattle.retro_text.proofs.Merging.{IsMerging, merging_starts, merging_is_rising, merging_joins, merging_goes_on}
use Rattle.retro_text.proofs.Merging.{merging_ends}
use Rattle.retro_text.proofs.spans.merge.Goals as goal
use Rattle.retro_text.proofs.spans.merge.Goals.{in-Some, in-None+in_ok-push-in-None}

pub join-requires : goal.join-requires
join-requires c =
    let spans = c.args.spans.now in
    merging_is_rising spans (take (length spans - 1) (drop 1 spans)) c.loop-span.merged.items c.loop-span.span-index
    c.loop-span.current (span 0 None) c.loop-span-test.true c.loop-span.invariant

pub loop-span-init : goal.loop-span-init
loop-span-init c =
    let spans = c.args.spans.now in
    let first = get_or spans 0 (span 0 None) in
    let rest = take (length spans - 1) (drop 1 spans) in
    let is = drop_more spans 0 (span 0 None) c.in-len1-up.len_at_least
    ∙ ap (λ more. first ∷ more) (sym (take_all (length spans - 1) (drop 1 spans) (omega (arith, length-drop 1 spans)))) in
    subst (λ merged. IsMerging spans rest 0 merged first) (sym c.new-merged.ensures.items)
    (merging_starts spans rest first is c.requires)

pub loop-span-preserved : goal.loop-span-preserved
loop-span-preserved c =
    let spans = c.args.spans.now in
    let rest = take (length spans - 1) (drop 1 spans) in
    let rising = IsNonDecreasingBy-take (λ s. s.first) (length spans - 1) (drop 1 spans)
    (IsNonDecreasingBy-drop (λ s. s.first) 1 spans c.requires) in
    let k = c.loop-span.span-index in
    let merged = c.loop-span.merged.items in
    let current = c.loop-span.current in
    let next = get_or rest k (span 0 None) in
    let same = get_or_default rest k (span 0 None) next c.loop-span-test.true in
    elim c.match-join.branch [
      | in-Some w ↦ subst (λ list. IsMerging spans rest (k + 1) list c.match-join.current) (sym (ap (λ v. v.items) w.merged-is))
          (subst (λ s. IsMerging spans rest (k + 1) merged s) (sym w.current-is)
          (merging_joins spans rest merged k current w.in-Some.joined next c.loop-span-test.true same
          w.in-Some.ensures.first w.in-Some.ensures.indices c.loop-span.invariant))
      | in-None+in_ok-push-in-None w ↦
          subst (λ list. IsMerging spans rest (k + 1) list c.match-join.current)
          (sym (ap (λ v. v.items) w.merged-is ∙ w.in_ok-push-in-None.ensures.items))
          (subst (λ s. IsMerging spans rest (k + 1) (merged ++ current ∷ []) s) (sym w.current-is)
          (merging_goes_on spans rest merged k current next rising c.loop-span-test.true same c.loop-span.invariant))
    ]

pub returns-clause-alike : goal.returns-clause-alike
returns-clause-alike c =
    let spans = c.args.spans.now in
    let rest = take (length spans - 1) (drop 1 spans) in
    subst (SelectAlike spans) (sym c.in_ok-push.ensures.items)
    (merging_ends spans rest c.loop-span.merged.items c.loop-span.span-index c.loop-span.current
    (omega (arith, c.loop-span-test.false)) c.loop-span.invariant).0

pub returns-clause-rising : goal.returns-clause-rising
returns-clause-rising c =
    let spans = c.args.spans.now in
    let rest = take (length spans - 1) (drop 1 spans) in
    subst AreRising (sym c.in_ok-push.ensures.items)
    (merging_ends spans rest c.loop-span.merged.items c.loop-span.span-index c.loop-span.current
    (omega (arith, c.loop-span-test.false)) c.loop-span.invariant).1
