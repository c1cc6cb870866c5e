use Rattle.std.proofs.Common.{◌∙◌, Bool, ap}
use Rattle.std.specs.List.{list_any}
use Rattle.retro_tree.specs.Path.{PathValue}
use Rattle.retro_redo.specs.inner.Altered.{altered_paths, kept_paths}
use Rattle.retro_redo.proofs.AlteredPaths.{near_of_same}
use Rattle.retro_redo.proofs.Finishing.{if_ok_map}
use Rattle.retro_redo.proofs.altered_paths.keeps_near.Goals as goal

pub returns : goal.returns
returns c =
    let lines = c.args.lines.now in
    let steps = c.args.choices.now in
    if_ok_map c.is_kept_near.result c.is_kept_near.ensures (λ near e.
    e ∙ ap (λ (f : PathValue → Bool). list_any f (kept_paths lines steps))
    (λ i p. near_of_same c.in_ok-altered.altered (altered_paths lines steps) c.in_ok-altered.ensures p i))
