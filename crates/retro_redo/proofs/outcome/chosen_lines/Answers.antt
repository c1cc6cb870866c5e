use Rattle.std.proofs.Common.{◌∙◌, ◌++◌, append-nil, ap, inl, inr, sym, ⊎_elim}
use Rattle.std.specs.Iterator.Adapters.{zip_first, zip_second}
use Rattle.std.specs.Slice.Iter.{iter_rest}
use Rattle.std.specs.Vec.Iter.{into_iter_items}
use Rattle.retro_redo.proofs.Choices.{nothing_left}
use Rattle.retro_redo.proofs.outcome.chosen_lines.Goals as goal

-- one of the two iterators is at its end
pub returns : goal.returns
returns c =
    let it = c.loop-line.line-iterator in
    sym (append-nil c.loop-line.chosen.items)
    ∙ ap (λ ls. c.loop-line.chosen.items ++ ls)
    (sym (nothing_left (iter_rest (zip_first it)) (into_iter_items (zip_second it))
    (⊎_elim (λ p. inl p.1.0) (λ q. inr (sym c.loop-line.invariant.left ∙ q.1.0)) c.in-None.ensures.steps)))
    ∙ c.loop-line.invariant.chosen
