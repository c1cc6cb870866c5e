-- Notes one after the other.
use Rattle.std.proofs.Common.{◌≡◌, ℕ, ◌+◌, ◌<◌, List, ◌∷◌, drop, length, get_or, sym, ap, ◌∙◌, add-one}
use Rattle.std.proofs.Math.Seq.{drop-cons}
use Rattle.retro_tree.specs.Notes.{after}
use Rattle.retro_tree.specs.declared.note.Note.{Note}
use Rattle.retro_tree.specs.declared.state.State.{State}

-- the note at a place and those after it
pub after_from : (notes : List Note) (i : ℕ) (read note : Note) (s : State) → i < length notes
    → read ≡ get_or notes i read → read ≡ note → after (note ∷ drop (i + 1) notes) s ≡ after (drop i notes) s
after_from notes i read note s h is eq =
    ap (λ rest. after rest s) (ap (λ n. n ∷ drop (i + 1) notes) (sym eq ∙ is)
    ∙ ap (λ k. get_or notes i read ∷ drop k notes) (add-one i)
    ∙ sym (drop-cons notes i read h))
