use Rattle.std.proofs.Common.{◌≡◌, ◌∙◌, ◌+◌, Bool, true, false, not, ap, map, drop, refl, sym}
use Rattle.std.specs.BTreeSet.{contains}
use Rattle.std.specs.Ordering.{nat_cmp}
use Rattle.std.proofs.Math.ListN.{drop_of_length-le}
use Rattle.retro_json.specs.Keyed.{keys_of}
use Rattle.retro_json.specs.Views.{row_view}
use Rattle.retro_json.proofs.Each.{at_item}
use Rattle.retro_json.proofs.Keyed.{gathered_all, gathered_twice, gathering_goes_on, gathering_starts}
use Rattle.retro_json.proofs.reading.sessions.are_distinct.Goals as goal

on : (b : Bool) → not b ≡ false → b ≡ true
on true h = refl
on false h = sym h

off : (b : Bool) → not b ≡ true → b ≡ false
off true h = sym h
off false h = refl

pub loop-row-init : goal.loop-row-init
loop-row-init c =
    gathering_starts (keys_of (map row_view c.args.rows.now)) c.new-sids.result c.new-sids.ensures.empty

pub returns-then-not-branch : goal.returns-then-not-branch
returns-then-not-branch c =
    let here = at_item row_view c.args.rows.now c.loop-row.row-index _ c.row-item.result c.loop-row-test.true
    c.row-item.is in
    let there : contains nat_cmp c.loop-row.sids c.row-item.result.sid ≡ true =
    on _ (sym c.in_ok-insert.ensures.added ∙ c.if-not-branch.true) in
    gathered_twice (keys_of (map row_view c.args.rows.now)) _
    (keys_of (map row_view (drop (c.loop-row.row-index + 1) c.args.rows.now))) c.loop-row.sids c.row-item.result.sid
    (ap keys_of here) there c.loop-row.invariant

pub loop-row-preserved : goal.loop-row-preserved
loop-row-preserved c =
    let here = at_item row_view c.args.rows.now c.loop-row.row-index _ c.row-item.result c.loop-row-test.true
    c.row-item.is in
    let absent : contains nat_cmp c.loop-row.sids c.row-item.result.sid ≡ false =
    off _ (sym c.in_ok-insert.ensures.added ∙ c.if-not-branch.false) in
    gathering_goes_on (keys_of (map row_view c.args.rows.now)) _
    (keys_of (map row_view (drop (c.loop-row.row-index + 1) c.args.rows.now))) c.loop-row.sids c.insert.new.self
    c.row-item.result.sid (ap keys_of here) absent c.in_ok-insert.ensures.updates.0 c.loop-row.invariant

pub returns : goal.returns
returns c =
    gathered_all (keys_of (map row_view c.args.rows.now)) _ c.loop-row.sids
    (ap (λ rows. keys_of (map row_view rows)) (drop_of_length-le c.args.rows.now c.loop-row-test.false))
    c.loop-row.invariant
