-- What taking from a seat returns.
use Rattle.std.specs.Prelude.{ℕ}
use Rattle.retro_pool.specs.declared.take_outcome.TakeOutcome.{TakeOutcome}
use Rattle.retro_pool.specs.declared.take_outcome.TakeOutcome.TheVariants.{Got, Bare, Busy}

-- a fact of the job, if there is one, and otherwise another fact
abbrev pub IfGot : TakeOutcome → (ℕ → Type 0) → Type 0 → Type 0
IfGot (Got job) P other = P job
IfGot Bare P other = other
IfGot Busy P other = other
