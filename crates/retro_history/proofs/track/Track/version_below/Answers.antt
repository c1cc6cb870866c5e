use Rattle.std.proofs.Common.{◌<◌, ◌-◌, List, rules, of_calls, Some, None, ap, sym, subst, ◌∙◌}
use Rattle.std.proofs.Common.{arith, length}
use Rattle.std.specs.Option.{option_map}
use Rattle.std.proofs.lemmas.Fn.{always_returns_same}
use Rattle.retro_history.specs.inner.Tracks.{RiseFrom, all_versions, version_below}
use Rattle.retro_history.specs.inner.Version.{version_value, AreWithin, IsWithin}
use Rattle.retro_history.specs.inner.History.{version_parts}
use Rattle.retro_history.specs.declared.version.Version.{Version}
use Rattle.retro_history.proofs.Buffers.{within_at}
use Rattle.retro_history.proofs.Lookups.{partitioned, last_found, earlier_found, found_after, found_at, is_below}
use Rattle.retro_history.proofs.Lookups.{track_of_code}
use Rattle.retro_history.proofs.track.Track.version_below.Goals as goal

pub returns-then-self-number : goal.returns-then-self-number
returns-then-self-number c =
    let buffer = c.self.inside.buffer.items in
    ap Some (c.to_ref.ensures ∙ ap (λ b. version_parts (version_value b c.self.inside.last)) c.deref.ensures.value)
    ∙ sym (ap (option_map version_parts)
    (last_found buffer c.args.number c.self.inside.earlier.items c.self.inside.last c.if-self-number.true))
    ∙ ap (λ t. option_map version_parts (version_below c.args.number t)) c.self.view_is

pub returns-then-count-eq0 : goal.returns-then-count-eq0
returns-then-count-eq0 c =
    let buffer = c.self.inside.buffer.items in
    let last = c.self.inside.last in
    let n = c.args.number in
    let xs = c.as_slice-earlier.result.now in
    let same = c.as_slice-earlier.ensures.value in
    let viewed = ap (λ l. track_of_code buffer n l last) same ∙ c.self.view_is in
    let rise : RiseFrom 0 (all_versions (track_of_code buffer n xs last)) =
    subst (λ t. RiseFrom 0 (all_versions t)) (sym viewed) c.requires in
    let point = c.partition_point-count.ensures.partitioned (is_below buffer n)
    (always_returns_same _ _ _ (λ a r f k. search (rules, of_calls)))
    (partitioned buffer n 0 xs (version_value buffer last) rise) in
    sym (ap (option_map version_parts)
    (earlier_found buffer n xs last c.if-self-number.false c.partition_point-count.result last
    c.partition_point-count.ensures.bound point
    ∙ ap (λ i. found_at buffer n None xs i last) c.if-count-eq0.true))
    ∙ ap (λ t. option_map version_parts (version_below n t)) viewed

pub to_ref-requires-2 : goal.to_ref-requires-2
to_ref-requires-2 c =
    let buffer = c.self.inside.buffer.items in
    let xs = c.as_slice-earlier.result.now in
    let version = c.index-earlier-count.result in
    let some : c.partition_point-count.result - 1 < length xs =
    omega (arith, c.partition_point-count.ensures.bound, c.if-count-eq0.false) in
    let within = within_at (length buffer) xs (c.partition_point-count.result - 1) version
    (subst (AreWithin (length buffer)) (sym c.as_slice-earlier.ensures.value) c.self.invariant.earlier) some in
    subst (λ (b : List _). IsWithin (length b) version.place) (sym c.deref-2.ensures.value)
    (subst (λ (v : Version). IsWithin (length buffer) v.place) (sym c.index-earlier-count.is) within)

pub returns : goal.returns
returns c =
    let buffer = c.self.inside.buffer.items in
    let last = c.self.inside.last in
    let n = c.args.number in
    let xs = c.as_slice-earlier.result.now in
    let same = c.as_slice-earlier.ensures.value in
    let version = c.index-earlier-count.result in
    let viewed = ap (λ l. track_of_code buffer n l last) same ∙ c.self.view_is in
    let rise : RiseFrom 0 (all_versions (track_of_code buffer n xs last)) =
    subst (λ t. RiseFrom 0 (all_versions t)) (sym viewed) c.requires in
    let point = c.partition_point-count.ensures.partitioned (is_below buffer n)
    (always_returns_same _ _ _ (λ a r f k. search (rules, of_calls)))
    (partitioned buffer n 0 xs (version_value buffer last) rise) in
    ap Some (c.to_ref-2.ensures ∙ ap (λ b. version_parts (version_value b version)) c.deref-2.ensures.value
    ∙ ap (λ v. version_parts (version_value buffer v)) c.index-earlier-count.is)
    ∙ sym (ap (option_map version_parts)
    (earlier_found buffer n xs last c.if-self-number.false c.partition_point-count.result version
    c.partition_point-count.ensures.bound point
    ∙ found_after buffer n xs c.partition_point-count.result version c.if-count-eq0.false))
    ∙ ap (λ t. option_map version_parts (version_below n t)) viewed
