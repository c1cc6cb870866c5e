use Rattle.std.proofs.Common.{ap, ◌∙◌, arith, map, List, ℕ}
use Rattle.std.specs.Global.{Vec}
use Rattle.std.proofs.lemmas.List.{length-map, map-set}
use Rattle.retro_pool.specs.declared.seat_knowledge.SeatKnowledge.{SeatKnowledge}
use Rattle.retro_pool.proofs.Steps.{takes_in, looks}
use Rattle.retro_pool.proofs.Whole.{comes_in}
use Rattle.retro_pool.proofs.settling.take_back.Goals as goal

pub absorb-requires-clause-rule : goal.absorb-requires-clause-rule
absorb-requires-clause-rule c = takes_in _ _ _ _ c.requires.placed.live c.requires.placed.owns
    (ap (λ (v : SeatKnowledge). v.live) c.thief.invariant.1)

pub len_as-requires : goal.len_as-requires
len_as-requires c = looks _ _ (ap (λ (v : SeatKnowledge). v.live) c.absorb.ensures.rule ∙ c.requires.placed.live)
    (ap (λ (v : SeatKnowledge). v.owns) c.absorb.ensures.rule ∙ c.requires.placed.owns)

pub index_mut-requires : goal.index_mut-requires
index_mut-requires c =
    let lists : List (List ℕ) = map (λ v. v.items) c.args.lists.now.items in
    let h = (comes_in _ _ _ _ _ _ _ _ lists c.requires.placed c.absorb.ensures.rule c.len_as.ensures.same.2
    c.thief.invariant.1 c.len_as.ensures.rule.2).0 in
    let n = length-map c.args.lists.now.items (λ (v : Vec ℕ). v.items) in omega arith

pub returns-clause-placed : goal.returns-clause-placed
returns-clause-placed c = rw map-set (comes_in _ _ _ _ _ _ _ _ _ c.requires.placed c.absorb.ensures.rule
    c.len_as.ensures.same.2 c.thief.invariant.1 c.len_as.ensures.rule.2).1
