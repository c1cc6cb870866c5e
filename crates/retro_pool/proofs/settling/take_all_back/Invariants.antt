use Rattle.std.proofs.Common.{◌≡◌, ◌++◌, map}
use Rattle.std.specs.Vec.Iter.{into_iter_items}
use Rattle.crossbeam_deque.specs.Handles.{worker_deque, worker_view}
use Rattle.retro_pool.specs.inner.Rule.{returned, ArePlaced}
use Rattle.retro_pool.proofs.settling.take_all_back.Given as goal

abbrev pub invariant-loop-thief : goal.invariant-loop-thief
invariant-loop-thief l =
    (goal.iterator-loop-thief).can_next l.thief-iterator ×
    (goal.iterator-loop-thief).is_finite l.thief-iterator ×
    ArePlaced (worker_view l.queue) (map (λ v. v.items) l.lists.items) ×
    (worker_deque l.queue ≡ worker_deque l.initial.queue) ×
    ((worker_view l.queue).dealt ≡ (worker_view l.initial.queue).dealt) ×
    ((worker_view l.queue).taken ≡ (worker_view l.initial.queue).taken) ×
    ((worker_view l.queue).seats ≡ (worker_view l.initial.queue).seats) ×
    ((worker_view l.queue).back ≡ map (λ t. returned t.number t.taken) l.yielded) ×
    (l.fn.thieves.items ≡ l.yielded ++ into_iter_items l.thief-iterator)
