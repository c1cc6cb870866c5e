use Rattle.std.proofs.Common.{◌||◌, ap, sym, subst, ◌∙◌}
use Rattle.std.specs.Option.{is_some}
use Rattle.std.specs.FinMap as map
use Rattle.std.specs.FinMap.{get-empty}
use Rattle.retro_tree.specs.CellOrder.{cell_cmp}
use Rattle.retro_tree.specs.Notes.{after, changes}
use Rattle.retro_tree.specs.Overlay.{Overlays}
use Rattle.retro_difference.proofs.overlays.overlay_of.Goals as goal

pub loop-note-init : goal.loop-note-init
loop-note-init c =
    let new = c.new-overlay.ensures in
    record {
      over = λ s. subst (Overlays c.new-overlay.result s) (sym (new.committed s)) (new.overlays s);
      rest = λ s. ap (after c.args.notes.now) (new.committed s);
      cells = λ k. ap (λ m. map.contains_key m k || changes c.args.notes.now k) new.value
          ∙ ap (λ o. is_some o || changes c.args.notes.now k) (get-empty cell_cmp k);
      fits = new.fits;
    }
