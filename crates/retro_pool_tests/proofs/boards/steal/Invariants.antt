use Rattle.std.proofs.Common.{◌≡◌}
use Rattle.retro_pool_tests.proofs.boards.steal.Given as goal

abbrev pub invariant-loop : goal.invariant-loop
invariant-loop l = l.thief.board ≡ l.initial.thief.board
