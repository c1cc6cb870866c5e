use Rattle.std.proofs.Common.{arith, ap, map, rules, subst, [], Ok}
use Rattle.std.proofs.lemmas.List.{nil_from_length}
use Rattle.std.specs.Vec.Iter.{into_iter_items}
use Rattle.retro_json.specs.Views.{row_view}
use Rattle.retro_json.specs.Worst.{every}
use Rattle.retro_json.proofs.SessionRows.{IsAdded, adding_ends, adding_goes_on, tree_stays}
use Rattle.retro_json.proofs.reading.sessions.state_with_rows.Goals as goal

pub loop-row-init : goal.loop-row-init
unfolding every
loop-row-init c = (
  tt,
  tt,
  record {
    done = [];
    parts = ap (map row_view) (search rules);
    is = λ i. Ok (record { tree = c.args.state.tree; sessions = c.requires.none i });
  },
)

pub loop-row-preserved : goal.loop-row-preserved
loop-row-preserved c = (
  tt,
  tt,
  adding_goes_on c.args.state.tree (map row_view c.args.rows.items) _
      (map row_view (into_iter_items c.next.new.self)) c.loop-row.whole c.in_ok-whole.whole (row_view c.in-Some.row)
      c.requires.distinct (ap (map row_view) c.in-Some.ensures.steps.0) c.in_ok-whole.ensures c.loop-row.invariant.2,
)

pub returns-clause-value : goal.returns-clause-value
returns-clause-value c =
    let none =
    nil_from_length (into_iter_items c.loop-row.row-iterator)
    (omega (arith, c.loop-row.row-iterator.rest.ok, c.in-None.ensures)) in
    adding_ends c.args.state.tree (map row_view c.args.rows.items) c.loop-row.whole
    (subst (λ rest. IsAdded c.args.state.tree (map row_view c.args.rows.items) rest c.loop-row.whole)
    (ap (map row_view) none) c.loop-row.invariant.2)

pub returns-clause-tree : goal.returns-clause-tree
returns-clause-tree c =
    tree_stays c.args.state.tree (map row_view c.args.rows.items) _ c.loop-row.whole c.loop-row.invariant.2
