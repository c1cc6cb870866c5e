use Rattle.std.proofs.Common.{◌≡◌, ◌+◌, ◌++◌, [], append-nil, ap, sym, ◌∙◌, arith, map}
use Rattle.crossbeam_deque.specs.Handles.{worker_view}
use Rattle.retro_pool.specs.declared.seat_knowledge.SeatKnowledge.{SeatKnowledge}
use Rattle.retro_pool.specs.inner.Rule.{returned}
use Rattle.retro_pool.proofs.Steps.{looks}
use Rattle.retro_pool.proofs.Whole.{settled}
use Rattle.std.specs.Vec.Iter.{into_iter_items}
use Rattle.std.proofs.lemmas.Grind.{common_steps}
use Rattle.retro_pool.specs.Seats.{OwnerValue, ThiefValue}
use Rattle.retro_pool.proofs.settling.take_all_back.Goals as goal

pub len_as-requires : goal.len_as-requires
len_as-requires c = let p = c.loop-thief.invariant.2 in looks _ _ p.live p.owns

pub returns : goal.returns
returns c =
    let i = c.loop-thief.invariant in
    let o = c.owner.invariant.0 in
    let none_left : into_iter_items c.loop-thief.thief-iterator ≡ [] = grind (arith, common_steps) in
    let all : c.args.thieves.items ≡ c.loop-thief.yielded = i.8
    ∙ (ap (λ l. c.loop-thief.yielded ++ l) none_left ∙ append-nil c.loop-thief.yielded) in
    settled c.args.owner c.args.thieves.items (worker_view c.loop-thief.queue) _ _ i.2 c.len_as.ensures.rule.2
    (i.4 ∙ ap (λ (v : OwnerValue). v.dealt) c.owner.view_is)
    (i.5 ∙ (ap (λ (v : SeatKnowledge). v.taken) o ∙ ap (λ (v : OwnerValue). v.taken) c.owner.view_is))
    (i.6 ∙ (ap (λ (v : SeatKnowledge). v.seats) o ∙ ap (λ (v : OwnerValue). v.thieves + 1) c.owner.view_is))
    (i.7 ∙ sym (ap (map (λ (t : ThiefValue). returned t.number t.taken)) all))
    (omega (arith, c.requires.count)) c.requires.total
