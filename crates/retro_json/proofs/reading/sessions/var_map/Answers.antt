use Rattle.std.proofs.Common.{arith, ◌≡◌, ◌∙◌, true, false, sym, ap}
use Rattle.std.specs.Prelude.{is_some}
use Rattle.std.proofs.lemmas.List.{nil_from_length}
use Rattle.std.specs.FinMap.{contains_key, from_entries}
use Rattle.std.specs.Vec.Iter.{into_iter_items}
use Rattle.retro_tree.specs.Order.{text_cmp, text_total, text_exact}
use Rattle.retro_tree.proofs.MapLemmas.{get_made, made_insert}
use Rattle.retro_json.proofs.Keyed.{made_goes_on, made_twice, made_whole}
use Rattle.retro_json.proofs.reading.sessions.var_map.Goals as goal

pub returns-then-contains_key : goal.returns-then-contains_key
returns-then-contains_key c =
    let var = c.in-Some.var in
    let there : contains_key (from_entries {R = text_cmp} c.loop-var.values.entries) var.0 ≡ true =
    ap is_some (get_made text_total c.loop-var.values.entries var.0) ∙ sym c.contains_key.ensures
    ∙ c.if-contains_key.true in
    made_twice text_total text_exact _ _ (into_iter_items c.next.new.self) (from_entries c.loop-var.values.entries)
    var.0 var.1 c.in-Some.ensures.steps.0 there c.loop-var.invariant.2

pub loop-var-preserved : goal.loop-var-preserved
loop-var-preserved c =
    let var = c.in-Some.var in
    let absent : contains_key (from_entries {R = text_cmp} c.loop-var.values.entries) var.0 ≡ false =
    ap is_some (get_made text_total c.loop-var.values.entries var.0) ∙ sym c.contains_key.ensures
    ∙ c.if-contains_key.false in
    let added =
    made_insert text_total text_exact c.loop-var.values.entries c.insert.new.self.entries var.0 var.1
    c.in_ok-insert.ensures.updates.0 in (
      tt,
      tt,
      made_goes_on text_total text_exact _ _ (into_iter_items c.next.new.self)
          (from_entries c.loop-var.values.entries) (from_entries c.insert.new.self.entries) var.0 var.1
          c.in-Some.ensures.steps.0 absent added c.loop-var.invariant.2,
    )

pub returns : goal.returns
returns c =
    let none =
    nil_from_length (into_iter_items c.loop-var.var-iterator)
    (omega (arith, c.loop-var.var-iterator.rest.ok, c.in-None.ensures)) in
    made_whole text_total text_exact _ _ (from_entries c.loop-var.values.entries) none c.loop-var.invariant.2
