use Rattle.std.proofs.Common.{◌≡◌, ◌+◌, length, take, sum_by}
use Rattle.retro_pool.proofs.settling.count_taken.Given as goal

abbrev pub invariant-loop-thief : goal.invariant-loop-thief
invariant-loop-thief l = l.count ≡ length l.owner.taken + sum_by (λ t. length t.taken) (take l.thief-index l.thieves)
