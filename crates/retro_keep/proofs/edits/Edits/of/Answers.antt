use Rattle.std.proofs.Common.{◌∙◌, ◌∷◌, [], ap}
use Rattle.std.specs.FinMap as map_of
use Rattle.std.specs.FinMap.{get-empty}
use Rattle.std.specs.Option.{option_or}
use Rattle.std.specs.Ordering.{nat_cmp}
use Rattle.retro_keep.specs.Edit.{edit_of}
use Rattle.retro_keep.proofs.EditTests.{edit_of_more}
use Rattle.retro_keep.proofs.edits.Edits.of.Goals as goal

pub loop-edit-init : goal.loop-edit-init
loop-edit-init c = λ n.
    ap (λ es. map_of.get (map_of.from_entries {R = nat_cmp} es) n) c.new.ensures.empty
    ∙ get-empty nat_cmp n

pub loop-edit-preserved : goal.loop-edit-preserved
loop-edit-preserved c = λ n.
    c.in_ok-add.ensures n
    ∙ ap (λ e. option_or e (edit_of (c.edit-item.result ∷ []) n)) (c.loop-edit.invariant n)
    ∙ edit_of_more c.args.edits.now c.loop-edit.edit-index c.edit-item.result c.loop-edit-test.true
    c.edit-item.is n
