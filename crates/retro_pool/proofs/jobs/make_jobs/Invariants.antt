use Rattle.std.proofs.Common.{◌≤◌, List, ℕ, ◌++◌, drop, length, vec_capacity, vec_len}
use Rattle.retro_redo.specs.Picks.{PicksBy}
use Rattle.retro_pool.specs.Jobs.{IsWanted}
use Rattle.retro_pool.proofs.jobs.make_jobs.Given as goal

abbrev pub invariant-loop-number : goal.invariant-loop-number
invariant-loop-number l = record {
  picked : (later : List ℕ) → PicksBy (λ n. n) (IsWanted l.ground) (drop l.number-index l.numbers) later
      → PicksBy (λ n. n) (IsWanted l.ground) l.numbers (l.jobs.items ++ later);
  few : vec_len l.jobs ≤ l.number-index;
  room : length l.numbers ≤ vec_capacity l.jobs;
}
