-- Two states have only one exact overlay.
use Rattle.std.proofs.Common.{◌≡◌, ◌∙◌, Option, Some, None, refl, sym, ap}
use Rattle.std.specs.FinMap as finmap
use Rattle.std.specs.FinMap.{same_map}
use Rattle.retro_tree.specs.Cell.{value}
use Rattle.retro_tree.specs.CellOrder.{cell_exact, cell_total}
use Rattle.retro_tree.specs.Exact.{IsDifference, IsExact}
use Rattle.retro_tree.specs.Overlay.{OverlayMap}
use Rattle.retro_tree.specs.declared.overlay_entry.OverlayEntry.{OverlayEntry}
use Rattle.retro_tree.specs.declared.overlay_entry.OverlayEntry.TheVariants as entries
use Rattle.retro_tree.specs.declared.state.State.{State}
use Rattle.retro_tree.specs.declared.value.Value.{Value}

same_entry : (one two : Option OverlayEntry) (was now : Value) → IsDifference one was now → IsDifference two was now
    → one ≡ two
same_entry None None was now h k = refl
same_entry None (Some (entries.Value v)) was now h k = absurd (k.1 h)
same_entry None (Some (entries.Growth bytes)) was now h k = absurd k
same_entry (Some (entries.Value v)) None was now h k = absurd (h.1 k)
same_entry (Some (entries.Value v)) (Some (entries.Value w)) was now h k =
    ap (λ x. Some (entries.Value x)) (h.0 ∙ sym k.0)
same_entry (Some (entries.Value v)) (Some (entries.Growth bytes)) was now h k = absurd k
same_entry (Some (entries.Growth bytes)) two was now h k = absurd h

pub one_exact_overlay : (one two : OverlayMap) (s t : State) → IsExact one s t → IsExact two s t → one ≡ two
one_exact_overlay one two s t h k =
    same_map cell_total cell_exact one two
    (λ c. same_entry (finmap.get one c) (finmap.get two c) (value c s) (value c t) (h c) (k c))
