use Rattle.std.proofs.Common.{rules, arith, ◌≡◌, ◌∙◌, true, false, [], ◌∷◌, Some, option_map, refl, ap}
use Rattle.std.proofs.lemmas.List.{nil_from_length}
use Rattle.std.specs.FinMap.{contains_key, empty}
use Rattle.std.specs.Vec.Iter.{into_iter_items}
use Rattle.retro_tree.specs.Order.{path_total, path_exact}
use Rattle.retro_tree.specs.State.{empty_state}
use Rattle.retro_tree.specs.Tree.{Tree, put}
use Rattle.retro_tree.specs.declared.state.State.{State}
use Rattle.retro_json.specs.TreePart.{root_entry}
use Rattle.retro_json.proofs.Entries.{put_entry}
use Rattle.retro_json.proofs.Keyed.{made_goes_on, made_twice, made_whole}
use Rattle.retro_json.proofs.reading.tree.state_with_rows.Goals as goal

with_tree : Tree → State
with_tree tree = record { tree = tree; sessions = empty }

pub loop-row-init : goal.loop-row-init
unfolding empty_state
loop-row-init c = (
  tt,
  tt,
  record {
    done = root_entry ∷ [];
    parts = ap (λ rows. root_entry ∷ rows) (search rules);
    is = ap (λ (s : State). s.tree) c.in_ok-state.ensures;
    differ = refl;
  },
  ap (λ (s : State). s.sessions) c.in_ok-state.ensures,
)

pub returns-then-is_some : goal.returns-then-is_some
unfolding with_tree
returns-then-is_some c =
    let row = c.in-Some.row in
    let there : contains_key c.loop-row.state.tree row.0 ≡ true = search rules in
    ap (option_map with_tree)
    (made_twice path_total path_exact _ _ (into_iter_items c.next.new.self) c.loop-row.state.tree row.0 row.1
    c.in-Some.ensures.steps.0 there c.loop-row.invariant.2)

pub loop-row-preserved : goal.loop-row-preserved
loop-row-preserved c =
    let row = c.in-Some.row in
    let tree = c.loop-row.state.tree in
    let absent : contains_key tree row.0 ≡ false = search rules in
    let placed =
    ap (λ (s : State). s.tree) c.in_ok-place.ensures.ok ∙ ap (λ n. put row.0 n tree) c.node_of.ensures
    ∙ put_entry row.0 row.1 tree in (
      tt,
      tt,
      made_goes_on path_total path_exact _ _ (into_iter_items c.next.new.self) tree c.place.new.self.tree row.0 row.1
          c.in-Some.ensures.steps.0 absent placed c.loop-row.invariant.2,
      ap (λ (s : State). s.sessions) c.in_ok-place.ensures.ok ∙ c.loop-row.invariant.3,
    )

pub returns : goal.returns
unfolding with_tree
returns c =
    let none =
    nil_from_length (into_iter_items c.loop-row.row-iterator)
    (omega (arith, c.loop-row.row-iterator.rest.ok, c.in-None.ensures)) in
    let is : c.loop-row.state ≡ with_tree c.loop-row.state.tree =
    λ i. record { tree = c.loop-row.state.tree; sessions = c.loop-row.invariant.3 i } in
    ap Some is
    ∙ ap (option_map with_tree)
    (made_whole path_total path_exact _ _ c.loop-row.state.tree none c.loop-row.invariant.2)
