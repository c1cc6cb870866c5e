use Rattle.std.proofs.Common.{◌∙◌, ◌++◌, append-nil, ap, inl, inr, sym, ⊎_elim}
use Rattle.std.specs.Iterator.Adapters.{zip_first, zip_second}
use Rattle.std.specs.Slice.Iter.{iter_rest}
use Rattle.casebook_account.proofs.Telling.{nothing_left}
use Rattle.casebook_account.proofs.machine_line.machine_lines.Goals as goal

-- one of the two iterators is at its end
pub returns-clause-ok : goal.returns-clause-ok
returns-clause-ok c =
    let it = c.loop-one.one-iterator in
    sym (append-nil c.loop-one.found.items)
    ∙ ap (λ ls. c.loop-one.found.items ++ ls)
    (sym (nothing_left c.loop-one.number c.loop-one.first (iter_rest (zip_first it)) (iter_rest (zip_second it))
    (⊎_elim (λ p. inl p.1.0) (λ q. inr q.1.0) c.in-None.ensures.steps)))
    ∙ c.loop-one.invariant.so_far
