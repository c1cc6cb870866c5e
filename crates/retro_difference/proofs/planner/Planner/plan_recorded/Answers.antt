use Rattle.std.proofs.Common.{rules, ◌≡◌, Bool, true, not, Option, Some, None, Bor, sym, ap, ◌∙◌}
use Rattle.std.specs.Option.{is_some, option_copied}
use Rattle.std.specs.FinMap as map
use Rattle.std.proofs.lemmas.Bool.{true≢false}
use Rattle.retro_difference.proofs.Covering.{covers_left}
use Rattle.retro_difference.proofs.planner.Planner.plan_recorded.Goals as goal

no_entry : {A : Type 0} (o : Option (Bor A)) (b : Bool) → is_some o ≡ not b → b ≡ true → option_copied o ≡ None
no_entry None b e t = search rules
no_entry (Some x) b e t = absurd (true≢false (e ∙ ap not t))

pub loop-cell-preserved-in_ok-plan_cell : goal.loop-cell-preserved-in_ok-plan_cell
loop-cell-preserved-in_ok-plan_cell g c =
    let key : c.in_ok-copy.field-0 ≡ c.in-Some.cell.now = c.in_ok-copy.ensures in
    let here : map.get c.args.recorded.now c.in-Some.cell.now ≡ Some c.in-Some.effect.now = search rules in
    let none : map.get c.args.chosen.now c.in-Some.cell.now ≡ None =
    sym c.get.ensures ∙ no_entry c.get.result c.is_none.result c.is_none.ensures c.if-is_none.true in
    record {
      plan = c.in_ok-plan_cell.ensures.plan c.args.recorded.now c.args.chosen.now
          (ap (map.get c.args.recorded.now) key ∙ here) (ap (map.get c.args.chosen.now) key ∙ none)
          c.loop-cell.invariant.plan;
      covers = search (rules, covers_left);
      found = search rules;
    }
