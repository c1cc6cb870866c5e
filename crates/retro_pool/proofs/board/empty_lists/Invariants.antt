use Rattle.std.proofs.Common.{◌≡◌, vec_len}
use Rattle.retro_pool.proofs.board.empty_lists.Given as goal

abbrev pub invariant-loop : goal.invariant-loop
invariant-loop l = vec_len l.lists ≡ l.counter
