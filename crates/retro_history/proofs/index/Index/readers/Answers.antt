use Rattle.std.proofs.Common.{Result, Ok, Err, IfOk, ◌∙◌}
use Rattle.retro_history.specs.inner.Numbers.{union}
use Rattle.retro_history.proofs.Readers.{readers_found}
use Rattle.retro_history.proofs.index.Index.readers.Goals as goal

if_ok : {A E : Type 0} (r : Result A E) (P Q : A → Type 0) → ((x : A) → P x → Q x) → IfOk r P → IfOk r Q
if_ok (Ok x) P Q f h = f x h
if_ok (Err e) P Q f h = tt

pub returns : goal.returns
returns c = if_ok c.merge.result _ _ (λ numbers is lines indexed.
    is ∙ (λ i. union (c.read_directly-read.ensures.value i) (c.in_ok-listed.ensures.value i))
    ∙ readers_found c.args.self.now c.args.cell.now lines indexed) c.merge.ensures
