use Rattle.std.proofs.Common.{◌++◌, ◌∷◌, [], ap, ◌∙◌, arith}
use Rattle.std.proofs.lemmas.List.{append_assoc}
use Rattle.retro_text.specs.Cut.{selected_items}
use Rattle.retro_text.proofs.Selecting.{bytes_end}
use Rattle.retro_text.proofs.cut.push_bytes.Goals as goal

pub returns : goal.returns
returns c =
    c.in_ok-push-2.ensures.items
    ∙ ap (λ text. text ++ 10 ∷ [])
    (bytes_end _ _ c.args.spans.now c.args.line.now c.loop-index.index (omega arith) c.loop-index.invariant.0)
    ∙ append_assoc c.args.out.now.items (selected_items c.args.spans.now c.args.line.now) (10 ∷ [])
