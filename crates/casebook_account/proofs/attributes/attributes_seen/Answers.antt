use Rattle.std.proofs.Common.{◌∙◌, ◌++◌, append-nil, ap, inl, inr, sym, ⊎_elim}
use Rattle.std.specs.Iterator.Adapters.{zip_first, zip_second}
use Rattle.std.specs.Slice.Iter.{iter_rest}
use Rattle.casebook_account.proofs.Telling.{nothing_seen}
use Rattle.casebook_account.proofs.attributes.attributes_seen.Goals as goal

-- one of the two iterators is at its end
pub returns : goal.returns
returns c =
    let it = c.loop-line.line-iterator in
    sym (append-nil c.loop-line.seen.items)
    ∙ ap (λ rest. c.loop-line.seen.items ++ rest)
    (sym (nothing_seen (iter_rest (zip_first it)) (iter_rest (zip_second it))
    (⊎_elim (λ p. inl p.1.0) (λ q. inr q.1.0) c.in-None.ensures.steps)))
    ∙ c.loop-line.invariant
