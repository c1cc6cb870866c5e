use Rattle.std.proofs.Common.{rules, ◌∙◌}
use Rattle.std.proofs.lemmas.List.Sorted.{answers_always}
use Rattle.retro_keep.proofs.Searching.{found_if_among}
use Rattle.retro_keep.proofs.numbered.has_number.Goals as goal

pub returns : goal.returns
returns g c =
    let number_at = g.L.Numbered.number in
    c.is_ok.ensures.value
    ∙ found_if_among number_at c.args.lines.now c.args.number c.requires
    c.binary_search_by_key.result
    c.binary_search_by_key.ensures.bound
    (c.binary_search_by_key.ensures.position number_at
    (answers_always _ _ _ (λ f a r h called. search rules)))
