-- Notes that hold in the repaired state.
use Rattle.std.proofs.Common.{◌≡◌, ◌↔◌, Bool, List, Result, Ok, Err, subst, ◌∙◌}
use Rattle.std.specs.Prelude.{IfOk, IsTrue}
use Rattle.retro_tree.specs.Notes.{Holds}
use Rattle.retro_tree.specs.Overlay.{OverlayMap}
use Rattle.retro_tree.specs.Commit.{committed}
use Rattle.retro_tree.specs.State.{SameSessions}
use Rattle.retro_tree.specs.Exact.{IsExact}
use Rattle.retro_tree.specs.declared.note.Note.{Note}
use Rattle.retro_tree.specs.declared.state.State.{State}
use Rattle.retro_tree.proofs.ExactOverlays.{exact_state}

pub holds_in_repaired : {X : Type 0} (r : Result Bool X) (notes : List Note) (overlay : OverlayMap) (s combined : State)
    → IfOk r (λ b. IsTrue b ↔ Holds notes combined) → combined ≡ committed overlay s
    → IfOk r (λ b. (t : State) → IsExact overlay s t → SameSessions s t → IsTrue b ↔ Holds notes t)
holds_in_repaired (Ok b) notes overlay s combined h is =
    λ t e k. subst (λ x. IsTrue b ↔ Holds notes x) (is ∙ exact_state overlay s t e k) h
holds_in_repaired (Err x) notes overlay s combined h is = tt
