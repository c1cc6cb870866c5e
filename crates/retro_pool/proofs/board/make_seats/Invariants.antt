use Rattle.std.proofs.Common.{◌≡◌, ◌+◌, ◌≤◌, [], length, vec_len}
use Rattle.crossbeam_deque.specs.Handles.{worker_deque, worker_flavor, worker_view, worker_capacity}
use Rattle.crossbeam_deque.specs.Handles.{worker_index}
use Rattle.retro_pool.specs.inner.Rule.{owner}
use Rattle.retro_pool.specs.Seats.{AreNew}
use Rattle.retro_pool.proofs.board.make_seats.Given as goal

abbrev pub ghosts-set_room : goal.ghosts-set_room
ghosts-set_room a = record { room = a.room }

abbrev pub invariant-loop-k : goal.invariant-loop-k
invariant-loop-k l = (worker_flavor l.queue ≡ 0) × (worker_deque l.queue ≡ worker_deque l.initial.queue)
    × (worker_view l.queue ≡ owner (l.k + 1) l.room [] [] [])
    × (worker_index l.queue ≡ worker_index l.initial.queue)
    × (worker_capacity l.initial.queue ≤ worker_capacity l.queue) × (vec_len l.seats ≡ l.k)
    × (length l.seats.items ≡ l.k) × AreNew (worker_deque l.initial.queue).0 1 l.seats.items
